-- The least live item of a greater number that an item is too near to; what two items must keep is any relation
-- Cited by the steps of `first_pair` and of a check; their promise is `IsLeastPair`
use Rattle.std.specs.Prelude.{ℕ, ◌<◌, List, Option, Some, None}
use Rattle.board_items.specs.declared.items.Item.{Item}
use Rattle.number_slots.specs.Slots.{IsAt}

-- item n keeps what it must from the live item d, where d is greater than n
abbrev pub KeepsLater : (Item → Item → Type 0) → List (ℕ × Item) → ℕ → Item → ℕ → Type 0
KeepsLater Keeps live n x d = (y : Item) → n < d → IsAt live d y → Keeps x y

-- item n is too near to the live item d, and d is greater than n
pub record IsTooNear (Keeps : Item → Item → Type 0) (live : List (ℕ × Item)) (n : ℕ) (x : Item) (d : ℕ) : Type 0 where
  pub later : n < d
  pub other : Item
  pub other_is : IsAt live d other
  pub near : Keeps x other → ⊥

-- the least of some numbers to which item n is too near and which are greater than n; none where there is no such one
abbrev pub IsLeastOf : (Item → Item → Type 0) → List (ℕ × Item) → ℕ → Item → (ℕ → Type 0) → Option ℕ → Type 0
IsLeastOf Keeps live n x Among None = (d : ℕ) → Among d → KeepsLater Keeps live n x d
IsLeastOf Keeps live n x Among (Some b) = IsTooNear Keeps live n x b × ((d : ℕ) → Among d → d < b → KeepsLater Keeps live n x d)

-- each number
abbrev pub Each : ℕ → Type 0
Each d = Unit {0}
