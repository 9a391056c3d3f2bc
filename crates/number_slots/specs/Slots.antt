-- Things by their number: a list of those that are there, in the order of their numbers.
-- Models: numbers that are given once, from 1 on, and never again. Cited by the calls of `Slots`
use Rattle.std.specs.Prelude.{ℕ, ◌≡◌, ◌≤◌, ◌+◌, Bool, not, ◌==◌, nat_lt, ◌⊎◌, Option, Some, None, List, [], ◌∷◌, ◌++◌}
use Rattle.std.specs.List.{filter, list_any}

-- the number is one of these
abbrev pub is_among : ℕ → List ℕ → Bool
is_among n ids = list_any (λ m. m == n) ids

-- those whose numbers aren't among these
abbrev pub without : {T : Type 0} → List ℕ → List (ℕ × T) → List (ℕ × T)
without ids xs = filter (λ x. not (is_among x.0 ids)) xs

-- this stands under this number
abbrev pub IsAt : {T : Type 0} → List (ℕ × T) → ℕ → T → Type 0
IsAt [] n x = ⊥
IsAt (y ∷ rest) n x = ((y.0 ≡ n) × (y.1 ≡ x)) ⊎ IsAt rest n x

-- something stands under the number
abbrev pub IsThere : {T : Type 0} → List (ℕ × T) → ℕ → Type 0
IsThere {T} xs n = (x : T) × IsAt xs n x

-- things, each under the next number
abbrev pub numbered : {T : Type 0} → ℕ → List T → List (ℕ × T)
numbered n [] = []
numbered n (x ∷ rest) = (n, x) ∷ numbered (n + 1) rest

-- the numbers rise, from this one on at least
abbrev pub IsRisingFrom : {T : Type 0} → ℕ → List (ℕ × T) → Type 0
IsRisingFrom n [] = Unit {0}
IsRisingFrom n (x ∷ rest) = (n ≤ x.0) × IsRisingFrom (x.0 + 1) rest

-- what is there, of slots that have the numbers from this one on
abbrev pub there : {T : Type 0} → ℕ → List (Option T) → List (ℕ × T)
there n [] = []
there n (None ∷ rest) = there (n + 1) rest
there n (Some x ∷ rest) = (n, x) ∷ there (n + 1) rest

-- what stands at these numbers, one after another
abbrev pub at_numbers : {T : Type 0} → List ℕ → List (ℕ × T) → List (ℕ × T)
at_numbers [] xs = []
at_numbers (n ∷ rest) xs = filter (λ x. x.0 == n) xs ++ at_numbers rest xs

-- those whose numbers lie below this one
abbrev pub under : {T : Type 0} → ℕ → List (ℕ × T) → List (ℕ × T)
under n xs = filter (λ x. nat_lt x.0 n) xs
