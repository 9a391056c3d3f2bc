-- Boards on which no two items are too near, and the least two that are, in whatever order they are looked for.
-- Cited by `clean` and by what a change of a clearance is answered
use Rattle.std.specs.Prelude.{ℕ, ◌≡◌, ◌<◌, ◌⊎◌, Option, List}
use Rattle.board_items.specs.declared.items.Item.{Item}
use Rattle.board_rules.specs.declared.design.Parts.{Parts}
use Rattle.board_rules.specs.Needs.{KeepsNeed}
use Rattle.number_slots.specs.Slots.{IsAt}

-- each two live items of different numbers have no need under these rules, or keep it
abbrev pub IsCleanBoard : Parts → List (Option ℕ) → List (ℕ × Item) → Type 0
IsCleanBoard p rules live = (a b : ℕ) (x y : Item) → a < b → IsAt live a x → IsAt live b y → KeepsNeed p rules x y

-- the pair of c and d goes before that of a and b
abbrev pub GoesBefore : ℕ → ℕ → ℕ → ℕ → Type 0
GoesBefore c d a b = (c < a) ⊎ ((c ≡ a) × (d < b))

-- the live items a and b don't keep their need under these rules, and each pair that goes before them does
pub record IsLeastPair (p : Parts) (rules : List (Option ℕ)) (live : List (ℕ × Item)) (a b : ℕ) : Type 0 where
  pub first : Item
  pub second : Item
  pub order : a < b
  pub first_is : IsAt live a first
  pub second_is : IsAt live b second
  pub near : KeepsNeed p rules first second → ⊥
  pub least : (c d : ℕ) (x y : Item) → c < d → GoesBefore c d a b → IsAt live c x → IsAt live d y → KeepsNeed p rules x y
