-- Clients as marks: the place of a client is marked where it is one of them. No public contract cites this module.
use Rattle.std.specs.Prelude.{ℕ, ◌+◌, ◌<◌, ◌^◌, Bool, true, false, Option, Some, None, List, [], ◌∷◌}
use Rattle.std.specs.List.{AllByRecursion}
use Rattle.number_slots.specs.Slots.{IsRisingFrom}
use Rattle.boundaries.specs.Boundaries.{Boundary, Space}

-- the marked places, counted from this number on
abbrev pub marked : ℕ → List Bool → List ℕ
marked n [] = []
marked n (true ∷ rest) = n ∷ marked (n + 1) rest
marked n (false ∷ rest) = marked (n + 1) rest

-- the numbers of live boundaries rise from 1 on, up to the last one that was given
pub record AreLive (fences : List (ℕ × Boundary)) (last : ℕ) : Type 0 where
  pub rising : IsRisingFrom 1 fences
  pub within : AllByRecursion (λ (x : ℕ × Boundary). x.0 < last + 1) fences
  pub few : last < 2 ^ 32

-- where there is room for a boundary, the list of so many live ones has a place left
abbrev pub HasPlace : Option Space → ℕ → ℕ → Type 0
HasPlace None live capacity = Unit {0}
HasPlace (Some space) live capacity = live < capacity
