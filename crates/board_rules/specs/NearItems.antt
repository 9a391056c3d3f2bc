-- Items near each other by their boxes: what an index finds, and all that may not keep a need; lengths in nanometres.
-- Cited by `items_are_near_or_keep_their_need`
use Rattle.std.specs.Prelude.{ℕ, List}
use Rattle.std.specs.List.{Contains}
use Rattle.area_geometry.specs.Copper.{Copper}
use Rattle.area_geometry.specs.Boxes.{AreBoxesNear}
use Rattle.board_items.specs.declared.items.Item.{Item}
use Rattle.board_items.specs.declared.items.Padstack.{Padstack}
use Rattle.board_items.specs.Shapes.{copper_of_item}

-- on some layer both have a shape, and the boxes of these meet, with that of the first moved out by `by` more
pub record AreItemsNear (stacks : List Padstack) (by : ℕ) (a b : Item) : Type 0 where
  pub shape : Copper
  pub other : Copper
  pub shape_is : Contains (copper_of_item stacks a) shape
  pub other_is : Contains (copper_of_item stacks b) other
  pub near : AreBoxesNear by shape other
