-- How many segments and edges an item has: what bounds the steps of a test.
-- Cited by the calls that test items against each other
use Rattle.std.specs.Prelude.{ℕ, ◌+◌, List, [], ◌∷◌, length}
use Rattle.area_geometry.specs.Copper.{Copper, pieces_of}
use Rattle.board_items.specs.declared.items.Item.{Item}
use Rattle.board_items.specs.declared.items.Padstack.{Padstack}
use Rattle.board_items.specs.Shapes.{copper_of_item}

-- the segments and edges of these shapes
unfoldable pub segments_in : List Copper → ℕ
segments_in [] = 0
segments_in (s ∷ rest) = length (pieces_of s) + segments_in rest

-- the segments and edges of an item's shapes
unfoldable pub segments_of : List Padstack → Item → ℕ
segments_of stacks i = segments_in (copper_of_item stacks i)
