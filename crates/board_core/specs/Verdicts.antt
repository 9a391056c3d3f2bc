-- What a verdict says of a request on a board, by whole lists: what is said against the request by itself, and of an edit
-- which live items are too near to it, which boundaries it meets, and which of its deletes aren't there.
-- Models: the costly tests of a request, made once on a client's own board. Cited by those who make verdicts and by those
-- who answer from them
use Rattle.std.specs.Prelude.{ℕ, ◌≡◌, ◌<◌, ◌≤◌, ◌⊎◌, ◌↔◌, Option, None, List, [], ◌∷◌, length, Any}
use Rattle.std.specs.List.{AllByRecursion, Contains}
use Rattle.std.specs.List.Sorted.{IsStrictlyIncreasing}
use Rattle.board_items.specs.declared.items.Item.{Item}
use Rattle.board_items.specs.declared.requests.Add.{Add}
use Rattle.board_items.specs.declared.requests.Request.{Request}
use Rattle.board_items.specs.declared.requests.Request.TheVariants as requests
use Rattle.board_items.specs.declared.history.Entry.{Entry}
use Rattle.board_items.specs.Adds.{item_of_add}
use Rattle.board_items.specs.Shapes.{copper_of_item}
use Rattle.board_rules.specs.declared.design.Parts.{Parts}
use Rattle.board_rules.specs.Reasons.{IsAddReason, IsStaticReason}
use Rattle.board_rules.specs.Rules.{with_rule}
use Rattle.number_slots.specs.Slots.{IsAt, IsThere, numbered}
use Rattle.boundaries.specs.Boundaries.{Boundary}
use Rattle.boundaries.specs.Touching.{TouchesBoundary}
use Rattle.board_core.specs.declared.verdict.Verdict.{Verdict}
use Rattle.board_core.specs.Boards.{Board, last_board}
use Rattle.board_core.specs.Barrings.{TouchesAt}
use Rattle.board_core.specs.Clean.{IsCleanBoard, IsLeastPair, GoesBefore}
use Rattle.board_core.specs.Edits.{IsNear}

-- each pair goes before all behind it
abbrev pub ArePairsRising : List (ℕ × ℕ) → Type 0
ArePairsRising [] = Unit {0}
ArePairsRising (x ∷ rest) = AllByRecursion (λ y. GoesBefore x.0 x.1 y.0 y.1) rest × ArePairsRising rest

-- nothing is said against the add by itself
abbrev pub IsRightAdd : Parts → Add → Type 0
IsRightAdd p add = IsAddReason p 1 add None

-- the add of number a, from 1, is right by itself, and too near to the live item of number id, which isn't deleted
pub record IsClash (p : Parts) (b : Board) (deletes : List ℕ) (adds : List Add) (a id : ℕ) : Type 0 where
  pub add : Add
  pub add_is : IsAt (numbered 1 adds) a add
  pub right : IsRightAdd p add
  pub near : IsNear p b.rules b.live deletes (item_of_add add) id

-- the add is right by itself and touches the boundary
pub record TouchesRightly (p : Parts) (f : Boundary) (add : Add) : Type 0 where
  pub right : IsRightAdd p add
  pub touches : TouchesBoundary (copper_of_item p.stacks (item_of_add add)) f

-- the boundary n is live, and a delete that is live, or an add that is right, touches it
pub record IsMet (p : Parts) (b : Board) (deletes : List ℕ) (adds : List Add) (n : ℕ) : Type 0 where
  pub fence : Boundary
  pub fence_is : IsAt b.fences n fence
  pub touched : Any (TouchesAt p b.live fence) deletes ⊎ Any (TouchesRightly p fence) adds

-- one of the deletes isn't live
pub record IsLate (live : List (ℕ × Item)) (deletes : List ℕ) (id : ℕ) : Type 0 where
  pub listed : Contains deletes id
  pub gone : IsThere live id → ⊥

-- the lists of an edit: exactly its clashes, the boundaries that it meets and the deletes that aren't live, rising, each once
pub record HasFound (p : Parts) (b : Board) (deletes : List ℕ) (adds : List Add) (clashes : List (ℕ × ℕ)) (touched late : List ℕ) : Type 0 where
  pub clashes_rise : ArePairsRising clashes
  pub clashes_are : (a id : ℕ) → IsAt clashes a id ↔ IsClash p b deletes adds a id
  pub touched_rise : IsStrictlyIncreasing touched
  pub touched_are : (n : ℕ) → Contains touched n ↔ IsMet p b deletes adds n
  pub late_rise : IsStrictlyIncreasing late
  pub late_are : (id : ℕ) → Contains late id ↔ IsLate b.live deletes id

-- the list of a change of a clearance: the least two live items that are too near under these rules, or nothing
abbrev pub IsUncleanList : Parts → List (Option ℕ) → List (ℕ × Item) → List (ℕ × ℕ) → Type 0
IsUncleanList p rules live [] = IsCleanBoard p rules live
IsUncleanList p rules live (x ∷ []) = IsLeastPair p rules live x.0 x.1
IsUncleanList p rules live (x ∷ y ∷ rest) = ⊥

-- the lists of a change of a clearance: nothing where there is no such class
pub record HasPair (p : Parts) (b : Board) (class clearance : ℕ) (clashes : List (ℕ × ℕ)) (touched late : List ℕ) : Type 0 where
  pub pair : class < length p.classes → IsUncleanList p (with_rule class clearance b.rules) b.live clashes
  pub no_class : length p.classes ≤ class → clashes ≡ []
  pub untouched : touched ≡ []
  pub in_time : late ≡ []

-- three empty lists
pub record HasNothing (clashes : List (ℕ × ℕ)) (touched late : List ℕ) : Type 0 where
  pub no_clash : clashes ≡ []
  pub untouched : touched ≡ []
  pub in_time : late ≡ []

-- the three lists of a request on a board
abbrev pub AreLists : Parts → Board → Request → List (ℕ × ℕ) → List ℕ → List ℕ → Type 0
AreLists p b (requests.Edit deletes adds) clashes touched late = HasFound p b deletes adds clashes touched late
AreLists p b (requests.Rule class clearance) clashes touched late = HasPair p b class clearance clashes touched late
AreLists p b (requests.Reserve id) clashes touched late = HasNothing clashes touched late
AreLists p b (requests.Release id) clashes touched late = HasNothing clashes touched late
AreLists p b (requests.Fence layers area clients) clashes touched late = HasNothing clashes touched late
AreLists p b (requests.Unfence fence) clashes touched late = HasNothing clashes touched late
AreLists p b (requests.Entitle fence client) clashes touched late = HasNothing clashes touched late

-- what the verdict says of its request is so on the board
pub record IsVerdict (p : Parts) (clients : ℕ) (b : Board) (v : Verdict) : Type 0 where
  pub plain : IsStaticReason p b.rules clients v.request v.plain
  pub lists : AreLists p b v.request v.clashes v.touched v.late

-- the verdict's base is the journal's length, and it is so on the board after the journal
pub record Stands (p : Parts) (clients : ℕ) (journal : List Entry) (v : Verdict) : Type 0 where
  pub base : v.base ≡ length journal
  pub verdict : IsVerdict p clients (last_board p journal) v
