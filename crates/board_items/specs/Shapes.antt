-- The copper of an item: its shapes at their place; all lengths in nanometres
-- Cited by `shape_count`, `shape_at` and by all that tells items apart
use Rattle.std.specs.Prelude.{ℕ, List, [], ◌∷◌, map, false, Option, Some, None, slice_get, pos}
use Rattle.seg_geometry.specs.declared.points.Pt.{Pt}
use Rattle.area_geometry.specs.declared.shapes.Shape.{Shape}
use Rattle.area_geometry.specs.Copper.{Copper, placed}
use Rattle.board_items.specs.declared.items.Item.{Item}
use Rattle.board_items.specs.declared.items.Item.TheVariants as items
use Rattle.board_items.specs.declared.items.Padstack.{Padstack}

-- the place that moves nothing
abbrev pub origin : Pt
origin = record { x = pos 0; y = pos 0 }

-- the shapes of a padstack; none where there is no such padstack
abbrev pub shapes_of : Option Padstack → List Shape
shapes_of None = []
shapes_of (Some p) = p.shapes

-- a chain of these points on a layer, with a width
abbrev pub chain_on : ℕ → ℕ → List Pt → Copper
chain_on layer width points = record { layer = layer; area = false; points = points; width = width }

-- the shapes of an item at their place: a wire is one chain, a via its padstack's shapes, a pad or keepout its own
abbrev pub copper_of_item : List Padstack → Item → List Copper
copper_of_item stacks (items.Wire net layer width points fix) = chain_on layer width points ∷ []
copper_of_item stacks (items.Via net padstack place fix) = map (placed place) (shapes_of (slice_get stacks padstack))
copper_of_item stacks (items.Pad net shapes) = map (placed origin) shapes
copper_of_item stacks (items.Keep kind shapes) = map (placed origin) shapes
