-- How the lists of an edit come about, one add and one delete after another. No public contract cites this module.
use Rattle.std.specs.Prelude.{ℕ, ◌≡◌, ◌+◌, ◌↔◌, ◌⊎◌, IsTrue, Bool, Option, Some, None, List, [], ◌∷◌, ◌++◌, map}
use Rattle.std.specs.List.{AllZip, Contains}
use Rattle.std.specs.List.Sorted.{IsStrictlyIncreasing}
use Rattle.board_items.specs.declared.items.Item.{Item}
use Rattle.board_items.specs.declared.requests.Add.{Add}
use Rattle.board_items.specs.declared.history.Why.{Why}
use Rattle.board_items.specs.Adds.{item_of_add}
use Rattle.board_items.specs.Shapes.{copper_of_item}
use Rattle.board_rules.specs.declared.design.Parts.{Parts}
use Rattle.number_slots.specs.Slots.{IsAt, IsThere}
use Rattle.boundaries.specs.Touching.{IsTouched}
use Rattle.board_core.specs.Boards.{Board}
use Rattle.board_core.specs.Edits.{IsNear}
use Rattle.board_core.specs.Verdicts.{IsRightAdd}

-- the first of two reasons that is there
abbrev pub earlier_of : Option Why → Option Why → Option Why
earlier_of None b = b
earlier_of (Some a) b = Some a

-- a mark for each add: whether it is right by itself
abbrev pub AreTried : Parts → List Add → List Bool → Type 0
AreTried p adds right = AllZip (λ (add : Add) (b : Bool). IsTrue b ↔ IsRightAdd p add) adds right

-- exactly the live items that aren't deleted and that the add, if it is right, is too near to; rising, each once
pub record AreNearAdd (p : Parts) (b : Board) (deletes : List ℕ) (add : Add) (ids : List ℕ) : Type 0 where
  pub rising : IsStrictlyIncreasing ids
  pub exact : (id : ℕ) → Contains ids id ↔ (IsRightAdd p add × IsNear p b.rules b.live deletes (item_of_add add) id)

-- the pairs of a number with each of these
abbrev pub paired : ℕ → List ℕ → List (ℕ × ℕ)
paired a ids = map (λ id. (a, id)) ids

-- the clashes of adds, of which the first has number a, one add after another
abbrev pub AreClashes : Parts → Board → List ℕ → ℕ → List Add → List (ℕ × ℕ) → Type 0
AreClashes p b deletes a [] clashes = clashes ≡ []
AreClashes p b deletes a (add ∷ rest) clashes =
    (ids : List ℕ) × (more : List (ℕ × ℕ)) × (clashes ≡ paired a ids ++ more) × AreNearAdd p b deletes add ids × AreClashes p b deletes (a + 1) rest more

-- to a list come exactly those of which S holds, in any order
abbrev pub GrowsBy : (ℕ → Type 0) → List ℕ → List ℕ → Type 0
GrowsBy S old new = (n : ℕ) → Contains new n ↔ (Contains old n ⊎ S n)

-- the delete is live and touches the boundary n
pub record IsMetByDelete (p : Parts) (b : Board) (id n : ℕ) : Type 0 where
  pub item : Item
  pub item_is : IsAt b.live id item
  pub touched : IsTouched b.fences (copper_of_item p.stacks item) n

-- the add is right by itself and touches the boundary n
pub record IsMetByAdd (p : Parts) (b : Board) (add : Add) (n : ℕ) : Type 0 where
  pub right : IsRightAdd p add
  pub touched : IsTouched b.fences (copper_of_item p.stacks (item_of_add add)) n

-- n is the delete, and it isn't live
abbrev pub IsLateDelete : List (ℕ × Item) → ℕ → ℕ → Type 0
IsLateDelete live id n = (n ≡ id) × (IsThere live id → ⊥)
