-- How the least boundary that bars a client is put together from what single items and reservations give.
-- No public contract cites this module.
use Rattle.std.specs.Prelude.{ℕ, ◌≡◌, nat_le, if◌then◌else◌, Option, Some, None, List}
use Rattle.seg_geometry.specs.declared.points.Pt.{Pt}
use Rattle.board_items.specs.declared.items.Item.{Item}
use Rattle.board_items.specs.Shapes.{copper_of_item}
use Rattle.board_rules.specs.declared.design.Parts.{Parts}
use Rattle.number_slots.specs.Slots.{IsAt}
use Rattle.boundaries.specs.Boundaries.{Boundary, IsEntitled}
use Rattle.boundaries.specs.Touching.{TouchesArea, TouchesBoundary}
use Rattle.board_core.specs.Boards.{Board}

-- the lesser of two numbers, where they are there
abbrev pub lesser_of : Option ℕ → Option ℕ → Option ℕ
lesser_of None b = b
lesser_of (Some a) None = Some a
lesser_of (Some a) (Some b) = if nat_le a b then Some a else Some b

-- the boundary n is live, the client isn't entitled in it, and the item touches it
pub record IsBarredItem (p : Parts) (b : Board) (client : ℕ) (item : Item) (n : ℕ) : Type 0 where
  pub fence : Boundary
  pub fence_is : IsAt b.fences n fence
  pub foreign : IsEntitled fence client → ⊥
  pub touches : TouchesBoundary (copper_of_item p.stacks item) fence

-- the number is that of a reservation of another client, whose live item touches an area on one of these layers
pub record IsCoveredPair (p : Parts) (live : List (ℕ × Item)) (client : ℕ) (layers : List ℕ) (area : List Pt) (pair : ℕ × ℕ) (id : ℕ) : Type 0 where
  pub id_is : pair.0 ≡ id
  pub other : pair.1 ≡ client → ⊥
  pub item : Item
  pub item_is : IsAt live id item
  pub touches : TouchesArea (copper_of_item p.stacks item) layers area
