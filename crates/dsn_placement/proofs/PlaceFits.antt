-- A placement is within the limits, where the shapes of its library are.
use Rattle.std.proofs.Common.{◌≡◌, ℕ, zero, suc, ◌≤◌, ◌<◌, List, [], ◌∷◌, ◌++◌, length, slice_get, Option, Some, None, Result, Ok, Err, IfOk, refl, sym, ap, subst, ◌∙◌, arith}
use Rattle.std.specs.List.{AllByRecursion}
use Rattle.std.proofs.lemmas.List.{length-map}
use Rattle.std.proofs.lemmas.List.Sums.{sum_by-cons}
use Rattle.sexp_text.specs.Forest.{Forest}
use Rattle.area_geometry.specs.declared.shapes.Core.{Core}
use Rattle.area_geometry.specs.declared.shapes.Core.TheVariants.{Chain, Area}
use Rattle.area_geometry.specs.declared.shapes.Shape.{Shape}
use Rattle.area_geometry.specs.Copper.{core_points}
use Rattle.board_items.specs.declared.items.Padstack.{Padstack}
use Rattle.board_items.specs.Shapes.{shapes_of}
use Rattle.dsn_turns.specs.declared.moves.Motion.{Motion}
use Rattle.dsn_turns.specs.Moves.{Leads, IsCoreMoved, IsMoved, AreMoved}
use Rattle.dsn_turns.proofs.MovedLaws.{same_length, each_has, core_in_range, layer_below, layer_kept}
use Rattle.dsn_lists.specs.declared.faults.ReadWhy.{ReadWhy}
use Rattle.dsn_lists.specs.Results.{Gives}
use Rattle.dsn_lists.specs.Names.{place_of}
use Rattle.dsn_lists.specs.Lists.{collect}
use Rattle.dsn_shapes.specs.QuotaLists.{points_of_shapes}
use Rattle.board_rules.specs.Designs.{HasCore, IsFitShape}
use Rattle.dsn_shapes.specs.Limits.{AreFitDrawn}
use Rattle.dsn_structure.specs.declared.structure.Structure.{Structure}
use Rattle.dsn_library.specs.declared.images.Image.{Image}
use Rattle.dsn_library.specs.declared.images.ImagePart.{ImagePart}
use Rattle.dsn_library.specs.declared.images.ImagePart.TheVariants as parts
use Rattle.dsn_library.specs.declared.library.Library.{Library}
use Rattle.dsn_placement.specs.declared.placement.PlacedPart.{PlacedPart}
use Rattle.dsn_placement.specs.declared.placement.PlacedPart.TheVariants as placed
use Rattle.dsn_placement.specs.declared.placement.Placement.{Placement}
use Rattle.dsn_placement.specs.declared.poses.Side.{Side}
use Rattle.dsn_placement.specs.declared.poses.Side.TheVariants.{Front, Back}
use Rattle.dsn_placement.specs.declared.poses.Pose.{Pose}
use Rattle.dsn_placement.specs.Placements.{Ground, over_on, parts_of}
use Rattle.dsn_placement.specs.Components.{placement_of}
use Rattle.dsn_placement.specs.PlaceParts.{IsPlaced, ArePlaced, shapes_of_placed, points_of_parts}
use Rattle.dsn_placement.specs.PlaceSites.{Site, name_in, parts_numbered, parts_named, Given, AreOfSites}
use Rattle.dsn_placement.specs.PlaceLimits.{IsFitPlaced, IsFitPlacement}
use Rattle.dsn_placement.proofs.FitShapes.{IsFitPart, HasFitShapes}
use Rattle.dsn_placement.specs.PlacementMeaning.{section, sites_in, HasPlacement}
use Rattle.dsn_placement.proofs.PlacePartLaws.{points_more}
use Rattle.dsn_placement.proofs.PlacementWhole.{has_found}

-- ---- shapes

core_kept : (steps : List Motion) (c d : Core) → HasCore c → IsCoreMoved steps c d → HasCore d
core_kept steps (Chain points) (Chain places) h m = let many = same_length (Leads steps) points places m in omega (arith, h, many)
core_kept steps (Chain points) (Area places) h m = absurd m
core_kept steps (Area points) (Chain places) h m = absurd m
core_kept steps (Area points) (Area places) h m = let many = same_length (Leads steps) points places m in omega (arith, h, many)

layer_there : (steps : List Motion) (side : Side) (layers : ℕ) (s t : Shape) → s.layer < layers → IsMoved steps (over_on side layers) s t → t.layer < layers
layer_there steps Front layers s t h m = layer_kept steps layers s t h m
layer_there steps Back layers s t h m = layer_below steps layers s t h m

shape_fit : (steps : List Motion) (side : Side) (layers : ℕ) (s t : Shape) → IsFitShape layers s → IsMoved steps (over_on side layers) s t → IsFitShape layers t
shape_fit steps side layers s t h m = record {
  layer = layer_there steps side layers s t h.layer m;
  core = core_kept steps s.core t.core h.core m.core;
  points = core_in_range steps s.core t.core h.points m.core;
  width = subst (λ (w : ℕ). w ≤ 100000000) (sym m.width) h.width;
}

shapes_fit : (steps : List Motion) (side : Side) (layers : ℕ) (ss ts : List Shape) → AreFitDrawn layers ss → AreMoved steps (over_on side layers) ss ts → AreFitDrawn layers ts
shapes_fit steps side layers ss ts h m = each_has (IsMoved steps (over_on side layers)) (IsFitShape layers) (IsFitShape layers) (λ s t f k. shape_fit steps side layers s t f k) ss ts h m

-- ---- parts

of_stack : (layers : ℕ) (stacks : List Padstack) (n : ℕ) → AllByRecursion (λ (p : Padstack). AreFitDrawn layers p.shapes) stacks → AreFitDrawn layers (shapes_of (slice_get stacks n))
of_stack layers [] n h = tt
of_stack layers (p ∷ ps) zero h = h.0
of_stack layers (p ∷ ps) (suc n) h = of_stack layers ps n h.1

of_image : (layers : ℕ) (images : List Image) (n : ℕ) → AllByRecursion (λ (m : Image). AllByRecursion (IsFitPart layers) m.parts) images → AllByRecursion (IsFitPart layers) (parts_of (slice_get images n))
of_image layers [] n h = tt
of_image layers (m ∷ ms) zero h = h.0
of_image layers (m ∷ ms) (suc n) h = of_image layers ms n h.1

part_fit : (g : Ground) (p : Pose) (n : ℕ) (q : ImagePart) (x : PlacedPart) → AllByRecursion (λ (s : Padstack). AreFitDrawn g.layers s.shapes) g.stacks → IsFitPart g.layers q → IsPlaced g p n q x → IsFitPlaced g.layers x
part_fit g p n (parts.Pin stack id eighths at) (placed.Pad component pin place ss) stacks h m = shapes_fit _ p.side g.layers (shapes_of (slice_get g.stacks stack)) ss (of_stack g.layers g.stacks stack stacks) m.3
part_fit g p n (parts.Pin stack id eighths at) (placed.Keep k ss) stacks h m = absurd m
part_fit g p n (parts.Keep k shapes) (placed.Pad component pin place ss) stacks h m = absurd m
part_fit g p n (parts.Keep k shapes) (placed.Keep kind ss) stacks h m = shapes_fit _ p.side g.layers shapes ss h m.1

parts_fit : (g : Ground) (o : Option Pose) (n : ℕ) (qs : List ImagePart) (ps : List PlacedPart) → AllByRecursion (λ (s : Padstack). AreFitDrawn g.layers s.shapes) g.stacks → AllByRecursion (IsFitPart g.layers) qs → ArePlaced g o n qs ps
    → AllByRecursion (IsFitPlaced g.layers) ps
parts_fit g None n qs ps stacks h m = subst (λ (xs : List PlacedPart). AllByRecursion (IsFitPlaced g.layers) xs) (sym m) tt
parts_fit g (Some p) n qs ps stacks h m = each_has (IsPlaced g p n) (IsFitPart g.layers) (IsFitPlaced g.layers) (λ q x f k. part_fit g p n q x stacks f k) qs ps h m

-- ---- how many shapes

core_some : (c : Core) → HasCore c → 1 ≤ length (core_points c)
core_some (Chain points) h = omega (arith, h)
core_some (Area points) h = omega (arith, h)

-- each shape has a point
some_points : (layers : ℕ) (ss : List Shape) → AreFitDrawn layers ss → length ss ≤ points_of_shapes ss
some_points layers [] h = omega arith
some_points layers (s ∷ ss) h =
    let one = core_some s.core h.0.core in
    let others = some_points layers ss h.1 in
    let sum = sum_by-cons (λ (s : Shape). length (core_points s.core)) s ss in
    omega (arith, one, others, sum)

few_of : (layers n : ℕ) (ps : List PlacedPart) → AllByRecursion (IsFitPlaced layers) ps → points_of_parts ps ≤ n → AllByRecursion (λ (x : PlacedPart). length (shapes_of_placed x) ≤ n) ps
few_of layers n [] h low = tt
few_of layers n (x ∷ ps) h low =
    let own = some_points layers (shapes_of_placed x) h.0 in
    let sum = points_more x ps in
    (omega (arith, own, sum, low), few_of layers n ps h.1 (omega (arith, sum, low)))

-- ---- components

numbered_fit : (layers : ℕ) (l : Library) (o : Option ℕ) → HasFitShapes layers l → AllByRecursion (IsFitPart layers) (parts_numbered l o)
numbered_fit layers l None h = tt
numbered_fit layers l (Some n) h = of_image layers l.images n h.images

all_join : (P : PlacedPart → Type 0) (xs ys : List PlacedPart) → AllByRecursion P xs → AllByRecursion P ys → AllByRecursion P (xs ++ ys)
all_join P [] ys a b = b
all_join P (x ∷ xs) ys a b = (a.0, all_join P xs ys a.1 b)

-- the padstacks of the setting are those of the library
pub sites_fit : (g : Given) (n : ℕ) (sites : List Site) (ps : List PlacedPart) → g.setting.stacks ≡ g.library.stacks → HasFitShapes g.setting.layers g.library → AreOfSites g n sites ps → AllByRecursion (IsFitPlaced g.setting.layers) ps
sites_fit g n [] ps same h a = subst (λ (xs : List PlacedPart). AllByRecursion (IsFitPlaced g.setting.layers) xs) (sym a) tt
sites_fit g n (s ∷ ss) ps same h a =
    let stacks = subst (λ (xs : List Padstack). AllByRecursion (λ (s : Padstack). AreFitDrawn g.setting.layers s.shapes) xs) (sym same) h.stacks in
    let own = numbered_fit g.setting.layers g.library (place_of g.library.image_names s.image) h in
    let first = parts_fit g.setting a.2.1 n (parts_named g.library s.image) a.0 stacks own a.2.3 in
    subst (λ (xs : List PlacedPart). AllByRecursion (IsFitPlaced g.setting.layers) xs) (sym a.4)
    (all_join (IsFitPlaced g.setting.layers) a.0 a.1 first (sites_fit g (suc n) ss a.1 same h a.3))

-- ---- the placement

pub placement_fit : (f : Forest) (s : Structure) (l : Library) (p : Placement) → HasFitShapes (length s.layers) l → HasPlacement f s l p → IsFitPlacement (length s.layers) s.quota p
placement_fit f s l p h has =
    let sites = has.2.sites in
    let numbered = same_length _ _ _ sites.images in
    let names = ap length sites.names ∙ length-map (collect sites_in (section f).args) (λ (s : Site). name_in s.args) in
    let items = sites.taken.items in
    let points = sites.taken.points in
    let parts = sites_fit _ 0 _ p.parts refl h sites.parts in
    record { images = numbered ∙ sym names; parts = parts; few = few_of (length s.layers) s.quota.points p.parts parts (omega (arith, points)); items = sym items; points = sym points }

pub fit_if_given : (f : Forest) (s : Structure) (l : Library) (r : Result Placement ReadWhy) → Gives (λ (x : Placement). x) r (placement_of f s l) → HasFitShapes (length s.layers) l → IfOk r (IsFitPlacement (length s.layers) s.quota)
fit_if_given f s l (Ok p) read h = placement_fit f s l p h (has_found f s l p read)
fit_if_given f s l (Err why) read h = tt
