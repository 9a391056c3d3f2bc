-- Who holds which item: pairs of an item's number and a client, in the order in which they were reserved.
-- Models: reservations of whole items, each by one client at most. Left out: whether an item is on the board.
-- Cited by: the calls of `Held`, and whatever folds reservations.
use Rattle.std.specs.Prelude.{ℕ, ◌≡◌, Bool, false, not, ◌==◌, if◌then◌else◌, Option, Some, None, List, [], ◌∷◌}
use Rattle.std.specs.List.{filter, list_any}
use Rattle.number_slots.specs.Slots.{without, IsAt}

-- who holds what, and how many more reservations fit without memory
pub record Holding : Type 0 where
  pub pairs : List (ℕ × ℕ)
  pub room : ℕ

-- the same clients hold the same items in the same order, whatever the room
abbrev pub IsSameHolding : Holding → Holding → Type 0
IsSameHolding old new = new.pairs ≡ old.pairs

-- the client holds the item
abbrev pub IsHolder : List (ℕ × ℕ) → ℕ → ℕ → Type 0
IsHolder pairs id client = IsAt pairs id client

-- somebody holds the item
abbrev pub is_held : ℕ → List (ℕ × ℕ) → Bool
is_held id pairs = list_any (λ p. p.0 == id) pairs

-- the client of the first pair that has the item
abbrev pub holder_of : ℕ → List (ℕ × ℕ) → Option ℕ
holder_of id [] = None
holder_of id (p ∷ rest) = if p.0 == id then Some p.1 else holder_of id rest

-- no two pairs have one item
abbrev pub AreHeldOnce : List (ℕ × ℕ) → Type 0
AreHeldOnce [] = Unit {0}
AreHeldOnce (p ∷ rest) = (is_held p.0 rest ≡ false) × AreHeldOnce rest

-- the pairs without the item's
abbrev pub released : ℕ → List (ℕ × ℕ) → List (ℕ × ℕ)
released id pairs = without (id ∷ []) pairs

-- the pairs without the client's
abbrev pub not_of : ℕ → List (ℕ × ℕ) → List (ℕ × ℕ)
not_of client pairs = filter (λ p. not (p.1 == client)) pairs
