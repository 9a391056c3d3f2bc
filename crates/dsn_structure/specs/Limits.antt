-- A structure within the limits.
use Rattle.std.specs.Prelude.{◌≡◌, ℕ, ◌+◌, ◌≤◌, ◌<◌, List, length}
use Rattle.std.specs.List.{AllByRecursion}
use Rattle.row_lists.specs.Limits.{layer_limit, item_limit, point_limit}
use Rattle.area_geometry.specs.declared.shapes.Shape.{Shape}
use Rattle.board_items.specs.declared.items.Item.{Item}
use Rattle.board_items.specs.declared.items.Item.TheVariants as items
use Rattle.dsn_lists.specs.Limits.{IsFitRule}
use Rattle.dsn_shapes.specs.Limits.{AreFitDrawn, AreFitAreas}
use Rattle.dsn_structure.specs.declared.structure.Structure.{Structure}
use Rattle.dsn_structure.specs.AreaLists.{points_of_keeps}

-- the shapes of a keepout are within the limits and on one of so many layers, and at most 32
pub record AreFitKept (layers : ℕ) (ss : List Shape) : Type 0 where
  pub shapes : AreFitDrawn layers ss
  pub few : length ss ≤ layer_limit

-- the item is a keepout within the limits
abbrev pub IsFitKeep : ℕ → Item → Type 0
IsFitKeep layers (items.Keep kind ss) = AreFitKept layers ss
IsFitKeep layers _ = ⊥

-- there are 1 to 32 layers; what the rules, boundaries and keepouts state is within the limits; and the keepouts and what may
-- still come are the 200,000 items and 4,000,000 points of a design
pub record IsFitStructure (s : Structure) : Type 0 where
  pub some_layer : 0 < length s.layers
  pub few_layers : length s.layers ≤ layer_limit
  pub rule : IsFitRule s.rule
  pub outline : AreFitAreas s.outline
  pub keeps : AllByRecursion (IsFitKeep (length s.layers)) s.keeps
  pub items : length s.keeps + s.quota.items ≡ item_limit
  pub points : points_of_keeps s.keeps + s.quota.points ≡ point_limit
