-- What a boundary keeps from clients who aren't entitled in it.
-- Models: an entry leaves what lies in each boundary that is foreign to its client. Cited by the laws over boards and by
-- the program's `run`
use Rattle.std.specs.Prelude.{ℕ, ◌≡◌, ◌↔◌, ◌+◌, List, Some, slice_get}
use Rattle.board_items.specs.declared.items.Item.{Item}
use Rattle.board_items.specs.declared.history.Entry.{Entry}
use Rattle.board_items.specs.Shapes.{copper_of_item}
use Rattle.board_rules.specs.declared.design.Parts.{Parts}
use Rattle.number_slots.specs.Slots.{IsAt}
use Rattle.boundaries.specs.Boundaries.{Boundary, IsEntitled}
use Rattle.boundaries.specs.Touching.{TouchesBoundary}
use Rattle.board_core.specs.Boards.{Board, board_at}
use Rattle.board_core.specs.Barrings.{TouchesAt}

-- two boards agree within the boundary n: on its record, on the items that touch it with their numbers, and on who holds
-- these
pub record IsSameWithin (p : Parts) (n : ℕ) (f : Boundary) (b c : Board) : Type 0 where
  pub fence : IsAt c.fences n f
  pub items : (id : ℕ) (x : Item) → TouchesBoundary (copper_of_item p.stacks x) f → (IsAt b.live id x ↔ IsAt c.live id x)
  pub held : (id client : ℕ) → TouchesAt p b.live f id → (IsAt b.held id client ↔ IsAt c.held id client)

-- each entry leaves what lies in each live boundary in which its client isn't entitled
abbrev pub IsShielded : Parts → List Entry → Type 0
IsShielded p journal = (k n : ℕ) (e : Entry) (f : Boundary) → slice_get journal k ≡ Some e
    → IsAt (board_at p journal k).fences n f → (IsEntitled f e.client → ⊥)
    → IsSameWithin p n f (board_at p journal k) (board_at p journal (k + 1))
