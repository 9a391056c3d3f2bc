-- Designs whose numbers name what is there and are within the limits.
-- Cited by `Design`, which is such a one, and by `Design::of_parts`
use Rattle.std.specs.Prelude.{ℕ, ◌≤◌, ◌<◌, ◌^◌, Bool, true, false, List, length, Option, Some, None, All}
use Rattle.std.specs.List.{AllByRecursion}
use Rattle.row_lists.specs.Limits.{layer_limit, net_limit, padstack_limit, item_limit, width_limit_nm}
use Rattle.seg_geometry.specs.declared.points.Pt.{Pt}
use Rattle.seg_geometry.specs.Points.{IsInRange}
use Rattle.area_geometry.specs.Copper.{Copper, IsWithinLimits, core_points}
use Rattle.area_geometry.specs.declared.shapes.Core.{Core}
use Rattle.area_geometry.specs.declared.shapes.Core.TheVariants.{Chain, Area}
use Rattle.area_geometry.specs.declared.shapes.Shape.{Shape}
use Rattle.board_items.specs.declared.items.Item.{Item}
use Rattle.board_items.specs.declared.items.Item.TheVariants as items
use Rattle.board_items.specs.declared.items.Padstack.{Padstack}
use Rattle.board_items.specs.Shapes.{copper_of_item}
use Rattle.board_rules.specs.declared.design.Stated.{Stated}
use Rattle.board_rules.specs.declared.design.ClassRow.{ClassRow}
use Rattle.board_rules.specs.declared.design.NetRow.{NetRow}
use Rattle.board_rules.specs.declared.design.PairRow.{PairRow}
use Rattle.board_rules.specs.declared.design.Parts.{Parts}

-- a number in nm that a width or clearance may have, where there is one
abbrev pub IsFitSize : Option ℕ → Type 0
IsFitSize None = Unit {0}
IsFitSize (Some n) = n ≤ width_limit_nm

-- the numbers of a list name one of so many things, where there is a list
abbrev pub AreThere : ℕ → Option (List ℕ) → Type 0
AreThere count None = Unit {0}
AreThere count (Some ids) = AllByRecursion (λ i. i < count) ids

-- a chain has a point, and an area three
abbrev pub HasCore : Core → Type 0
HasCore (Chain points) = 0 < length points
HasCore (Area points) = 3 ≤ length points

-- how many points an area has at least, or a chain
abbrev pub least_points : Bool → ℕ
least_points true = 3
least_points false = 1

-- copper at its place has its points: an area three, and a chain one
abbrev pub HasEnough : Copper → Type 0
HasEnough s = least_points s.area ≤ length s.points

-- a shape of a padstack: its layer is there, it has its points, these are in range, and it is at most a tenth of a metre wide
pub record IsFitShape (layers : ℕ) (s : Shape) : Type 0 where
  pub layer : s.layer < layers
  pub core : HasCore s.core
  pub points : AllByRecursion IsInRange (core_points s.core)
  pub width : s.width ≤ width_limit_nm

-- an area of an outline, by three points or more that are in range
pub record IsFitArea (points : List Pt) : Type 0 where
  pub points_fit : AllByRecursion IsInRange points
  pub count : 3 ≤ length points

-- a class names padstacks that are there, and its sizes are within the limits
pub record IsFitClass (stacks : ℕ) (c : ClassRow) : Type 0 where
  pub width : IsFitSize c.width
  pub vias : AreThere stacks c.vias
  pub clearances : AllByRecursion (λ (s : Stated). s.value ≤ width_limit_nm) c.clearances

-- a pair names classes that are there, and its sizes are within the limits
pub record IsFitPair (classes : ℕ) (r : PairRow) : Type 0 where
  pub one : r.a < classes
  pub other : r.b < classes
  pub clearances : AllByRecursion (λ (s : Stated). s.value ≤ width_limit_nm) r.clearances

-- an item names a layer, a net and a padstack that are there
abbrev pub NamesThere : Parts → Item → Type 0
NamesThere p (items.Wire net layer width points fix) = (net < length p.nets) × (layer < length p.layers)
NamesThere p (items.Via net padstack place fix) = (net < length p.nets) × (padstack < length p.stacks)
NamesThere p (items.Pad None shapes) = AllByRecursion (λ (s : Shape). s.layer < length p.layers) shapes
NamesThere p (items.Pad (Some net) shapes) = (net < length p.nets) × AllByRecursion (λ (s : Shape). s.layer < length p.layers) shapes
NamesThere p (items.Keep kind shapes) = AllByRecursion (λ (s : Shape). s.layer < length p.layers) shapes

-- an item of a design: what it names is there, its copper is within the limits, and each shape has its points
pub record IsFitItem (p : Parts) (i : Item) : Type 0 where
  pub there : NamesThere p i
  pub copper : All IsWithinLimits (copper_of_item p.stacks i)
  pub cores : All HasEnough (copper_of_item p.stacks i)
  pub few : length (copper_of_item p.stacks i) < 2 ^ 32

-- a design: there is a class 0, each number names a thing that is there, and all is within the limits
pub record IsSound (p : Parts) : Type 0 where
  pub some_class : 0 < length p.classes
  pub few_classes : length p.classes < 2 ^ 32
  pub few_layers : length p.layers ≤ layer_limit
  pub few_nets : length p.nets ≤ net_limit
  pub few_stacks : length p.stacks ≤ padstack_limit
  pub few_areas : length p.outline < 2 ^ 32
  pub few_items : length p.items ≤ item_limit
  pub nets : AllByRecursion (λ (n : NetRow). n.class < length p.classes) p.nets
  pub classes : AllByRecursion (IsFitClass (length p.stacks)) p.classes
  pub pairs : AllByRecursion (IsFitPair (length p.classes)) p.pairs
  pub stacks : AllByRecursion (λ (s : Padstack). AllByRecursion (IsFitShape (length p.layers)) s.shapes) p.stacks
  pub few_shapes : AllByRecursion (λ (s : Padstack). length s.shapes < 2 ^ 32) p.stacks
  pub outline : AllByRecursion IsFitArea p.outline
  pub items : AllByRecursion (IsFitItem p) p.items
