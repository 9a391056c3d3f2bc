-- What lists at the place of a shape draw is within the limits.
use Rattle.std.proofs.Common.{◌≡◌, ℕ, zero, suc, ◌+◌, ◌*◌, ◌≤◌, ◌<◌, Bool, true, false, List, [], ◌∷◌, ◌++◌, length, Option, Some, None, Ok, refl, sym, ap, ◌∙◌, subst, arith}
use Rattle.std.specs.Prelude.{nat_lt, min, if◌then◌else◌}
use Rattle.std.specs.List.{AllByRecursion}
use Rattle.std.proofs.lemmas.List.{length-append}
use Rattle.std.proofs.Math.Nat.{min-le_left, min-le_right}
use Rattle.sexp_text.specs.Forest.{Forest, End, Word, Branch}
use Rattle.sexp_text.specs.Nodes.{size}
use Rattle.sexp_text.specs.declared.units.Unit.{Unit as LengthUnit}
use Rattle.seg_geometry.specs.Points.{IsInRange}
use Rattle.area_geometry.specs.declared.shapes.Core.{Core}
use Rattle.area_geometry.specs.declared.shapes.Core.TheVariants.{Chain, Area}
use Rattle.area_geometry.specs.declared.shapes.Shape.{Shape}
use Rattle.area_geometry.specs.Copper.{core_points}
use Rattle.dsn_lists.specs.declared.marks.Mark.{Mark}
use Rattle.dsn_lists.specs.Words.{word_of}
use Rattle.dsn_lists.specs.Layers.{some_layer}
use Rattle.dsn_lists.specs.Shapes.{path_of, circle_of}
use Rattle.dsn_lists.proofs.Bounds.{ok_is, err_gives, bind_ok, each_keeps, all_append, all_push, some_layer_bound, path_of_bound, circle_of_bound}
use Rattle.dsn_lists.proofs.Sizes.{each_grows}
use Rattle.dsn_shapes.specs.declared.drawn.ShapeWord.{ShapeWord}
use Rattle.dsn_shapes.specs.declared.drawn.ShapeWord.TheVariants as shapes
use Rattle.dsn_shapes.specs.Rings.{ring_of, rect_of}
use Rattle.dsn_shapes.specs.Drawn.{shape_on, on_each, on_layers, shape_word, circles, paths, rects, polygons, shape_list, shape_item, shapes_of}
use Rattle.board_rules.specs.Designs.{HasCore, IsFitShape}
use Rattle.dsn_shapes.specs.Limits.{AreFitDrawn}
use Rattle.dsn_shapes.proofs.RingFits.{ring_of_fit, rect_of_fit}

-- ---- on layers

-- a core and a width within the limits
record IsFitCore (core : Core) (width : ℕ) : Type 0 where
  points : AllByRecursion IsInRange (core_points core)
  some : HasCore core
  wide : width ≤ 100000000

drawn_on : (count layer : ℕ) (core : Core) (width : ℕ) → layer < count → IsFitCore core width → IsFitShape count (shape_on layer core width)
drawn_on count layer core width l fit = record { layer = l; core = fit.some; points = fit.points; width = fit.wide }

fit_each : (n count : ℕ) (core : Core) (width : ℕ) → n ≤ count → IsFitCore core width → AreFitDrawn count (on_each n core width)
unfolding on_each
fit_each zero count core width low fit = tt
fit_each (suc n) count core width low fit =
    all_push (IsFitShape count) (on_each n core width) (shape_on n core width)
    (fit_each n count core width (omega (arith, low)) fit)
    (drawn_on count n core width (omega (arith, low)) fit)

fit_if : (count : ℕ) (b : Bool) (s : Shape) → IsFitShape count s → AreFitDrawn count (if b then s ∷ [] else [])
fit_if count true s p = (p, tt)
fit_if count false s p = tt

fit_layers : (count : ℕ) (o : Option ℕ) (core : Core) (width : ℕ) → ((n : ℕ) → o ≡ Some n → n < count) → IsFitCore core width → AreFitDrawn count (on_layers count o core width)
fit_layers count (Some n) core width l fit = fit_if count (nat_lt n 32) (shape_on n core width) (drawn_on count n core width (l n refl) fit)
fit_layers count None core width l fit = fit_each (min count 32) count core width (min-le_left count 32) fit

named_layer : (layers : List (List ℕ)) (w : Mark) (o : Option ℕ) → some_layer layers w ≡ Ok o → (n : ℕ) → o ≡ Some n → n < length layers
named_layer layers w o e n is = some_layer_bound layers w n (e ∙ ap (λ (x : Option ℕ). Ok x) is)

-- ---- each kind of shape

fit_circles : (u : LengthUnit) (layers : List (List ℕ)) (at : ℕ) (f : Forest) (y : List Shape) → circles u layers at f ≡ Ok y → AreFitDrawn (length layers) y
unfolding circles
fit_circles u layers at f y e =
    let a = bind_ok (word_of at f) _ y e in
    let b = bind_ok (some_layer layers a.0.0) _ y a.2 in
    let c = bind_ok (circle_of u at a.0.1) _ y b.2 in
    let fit = circle_of_bound u at a.0.1 c.0 c.1 in
    let core : IsFitCore (Chain (c.0.centre ∷ [])) c.0.width = record { points = (fit.centre, tt); some = omega arith; wide = fit.width } in
    subst (AreFitDrawn (length layers)) (ok_is c.2) (fit_layers (length layers) b.0 (Chain (c.0.centre ∷ [])) c.0.width (named_layer layers a.0.0 b.0 b.1) core)

fit_paths : (u : LengthUnit) (layers : List (List ℕ)) (at : ℕ) (f : Forest) (y : List Shape) → paths u layers at f ≡ Ok y → AreFitDrawn (length layers) y
unfolding paths
fit_paths u layers at f y e =
    let a = bind_ok (word_of at f) _ y e in
    let b = bind_ok (some_layer layers a.0.0) _ y a.2 in
    let c = bind_ok (path_of u at a.0.1) _ y b.2 in
    let fit = path_of_bound u at a.0.1 c.0 c.1 in
    let two = fit.count in
    let core : IsFitCore (Chain c.0.points) c.0.width = record { points = fit.points; some = omega (arith, two); wide = fit.width } in
    subst (AreFitDrawn (length layers)) (ok_is c.2) (fit_layers (length layers) b.0 (Chain c.0.points) c.0.width (named_layer layers a.0.0 b.0 b.1) core)

fit_rects : (u : LengthUnit) (layers : List (List ℕ)) (at : ℕ) (f : Forest) (y : List Shape) → rects u layers at f ≡ Ok y → AreFitDrawn (length layers) y
unfolding rects
fit_rects u layers at f y e =
    let a = bind_ok (word_of at f) _ y e in
    let b = bind_ok (some_layer layers a.0.0) _ y a.2 in
    let c = bind_ok (rect_of u at a.0.1) _ y b.2 in
    let fit = rect_of_fit u at a.0.1 c.0 c.1 in
    let core : IsFitCore (Area c.0) 0 = record { points = fit.points_fit; some = fit.count; wide = omega arith } in
    subst (AreFitDrawn (length layers)) (ok_is c.2) (fit_layers (length layers) b.0 (Area c.0) 0 (named_layer layers a.0.0 b.0 b.1) core)

fit_polygons : (u : LengthUnit) (layers : List (List ℕ)) (at : ℕ) (f : Forest) (y : List Shape) → polygons u layers at f ≡ Ok y → AreFitDrawn (length layers) y
unfolding polygons
fit_polygons u layers at f y e =
    let a = bind_ok (word_of at f) _ y e in
    let b = bind_ok (some_layer layers a.0.0) _ y a.2 in
    let c = bind_ok (ring_of u at a.0.1) _ y b.2 in
    let fit = ring_of_fit u at a.0.1 c.0 c.1 in
    let core : IsFitCore (Area c.0.points) c.0.width = record { points = fit.area.points_fit; some = fit.area.count; wide = fit.width } in
    subst (AreFitDrawn (length layers)) (ok_is c.2) (fit_layers (length layers) b.0 (Area c.0.points) c.0.width (named_layer layers a.0.0 b.0 b.1) core)

fit_shape_list : (u : LengthUnit) (layers : List (List ℕ)) (at : ℕ) (w : Mark) (f : Forest) (word : ShapeWord) (y : List Shape) → shape_list u layers at w f word ≡ Ok y → AreFitDrawn (length layers) y
fit_shape_list u layers at w f shapes.Circle y e = fit_circles u layers at f y e
fit_shape_list u layers at w f shapes.Path y e = fit_paths u layers at f y e
fit_shape_list u layers at w f shapes.Rect y e = fit_rects u layers at f y e
fit_shape_list u layers at w f shapes.Polygon y e = fit_polygons u layers at f y e
fit_shape_list u layers at w f shapes.Arc y e = absurd (err_gives e)
fit_shape_list u layers at w f shapes.Polyline y e = absurd (err_gives e)
fit_shape_list u layers at w f shapes.Window y e = absurd (err_gives e)
fit_shape_list u layers at w f shapes.Other y e = absurd (err_gives e)

-- ---- lists of shapes

-- what a shape's list gives, and that it is put behind
shape_parts : (u : LengthUnit) (layers : List (List ℕ)) (ss : List Shape) (at : ℕ) (inside : Forest) (y : List Shape) → shape_item u layers ss at inside ≡ Ok y
    → (w : Mark × Forest) × (xs : List Shape) × (shape_list u layers at w.0 w.1 (shape_word w.0.name) ≡ Ok xs) × (ss ++ xs ≡ y)
unfolding shape_item
shape_parts u layers ss at inside y e =
    let a = bind_ok (word_of at inside) _ y e in
    let b = bind_ok (shape_list u layers at a.0.0 a.0.1 (shape_word a.0.0.name)) _ y a.2 in
    (a.0, b.0, b.1, ok_is b.2)

-- behind shapes within the limits, the shapes of one more list are so too
pub shape_item_fit : (u : LengthUnit) (layers : List (List ℕ)) (ss : List Shape) (at : ℕ) (inside : Forest) (y : List Shape) → AreFitDrawn (length layers) ss → shape_item u layers ss at inside ≡ Ok y → AreFitDrawn (length layers) y
shape_item_fit u layers ss at inside y p e =
    let s = shape_parts u layers ss at inside y e in
    subst (AreFitDrawn (length layers)) s.3 (all_append (IsFitShape (length layers)) ss s.1 p (fit_shape_list u layers at s.0.0 s.0.1 (shape_word s.0.0.name) s.1 s.2))

-- behind shapes within the limits, the shapes of more lists are so too
pub shapes_of_fit : (u : LengthUnit) (layers : List (List ℕ)) (ss : List Shape) (at : ℕ) (f : Forest) (y : List Shape) → AreFitDrawn (length layers) ss → shapes_of u layers ss at f ≡ Ok y → AreFitDrawn (length layers) y
unfolding shapes_of
shapes_of_fit u layers ss at End y p e = absurd (err_gives e)
shapes_of_fit u layers ss at (Word a text rest) y p e = absurd (err_gives e)
shapes_of_fit u layers ss at (Branch a inside rest) y p e = each_keeps (AreFitDrawn (length layers)) (shape_item u layers) (shape_item_fit u layers) ss (Branch a inside rest) y p e

-- ---- how many shapes there are

length_each : (n : ℕ) (core : Core) (width : ℕ) → length (on_each n core width) ≡ n
unfolding on_each
length_each zero core width = refl
length_each (suc n) core width = let rest = length_each n core width in rw (length-append (on_each n core width) (shape_on n core width ∷ []), rest) (omega arith)

few_if : (b : Bool) (s : Shape) → length (if b then s ∷ [] else []) ≤ 32
few_if true s = omega arith
few_if false s = omega arith

few_layers : (count : ℕ) (o : Option ℕ) (core : Core) (width : ℕ) → length (on_layers count o core width) ≤ 32
few_layers count (Some n) core width = few_if (nat_lt n 32) (shape_on n core width)
few_layers count None core width = rw (length_each (min count 32) core width) (min-le_right count 32)

abbrev AreFew : List Shape → Type 0
AreFew ss = length ss ≤ 32

few_circles : (u : LengthUnit) (layers : List (List ℕ)) (at : ℕ) (f : Forest) (y : List Shape) → circles u layers at f ≡ Ok y → AreFew y
unfolding circles
few_circles u layers at f y e =
    let a = bind_ok (word_of at f) _ y e in
    let b = bind_ok (some_layer layers a.0.0) _ y a.2 in
    let c = bind_ok (circle_of u at a.0.1) _ y b.2 in
    subst AreFew (ok_is c.2) (few_layers (length layers) b.0 (Chain (c.0.centre ∷ [])) c.0.width)

few_paths : (u : LengthUnit) (layers : List (List ℕ)) (at : ℕ) (f : Forest) (y : List Shape) → paths u layers at f ≡ Ok y → AreFew y
unfolding paths
few_paths u layers at f y e =
    let a = bind_ok (word_of at f) _ y e in
    let b = bind_ok (some_layer layers a.0.0) _ y a.2 in
    let c = bind_ok (path_of u at a.0.1) _ y b.2 in
    subst AreFew (ok_is c.2) (few_layers (length layers) b.0 (Chain c.0.points) c.0.width)

few_rects : (u : LengthUnit) (layers : List (List ℕ)) (at : ℕ) (f : Forest) (y : List Shape) → rects u layers at f ≡ Ok y → AreFew y
unfolding rects
few_rects u layers at f y e =
    let a = bind_ok (word_of at f) _ y e in
    let b = bind_ok (some_layer layers a.0.0) _ y a.2 in
    let c = bind_ok (rect_of u at a.0.1) _ y b.2 in
    subst AreFew (ok_is c.2) (few_layers (length layers) b.0 (Area c.0) 0)

few_polygons : (u : LengthUnit) (layers : List (List ℕ)) (at : ℕ) (f : Forest) (y : List Shape) → polygons u layers at f ≡ Ok y → AreFew y
unfolding polygons
few_polygons u layers at f y e =
    let a = bind_ok (word_of at f) _ y e in
    let b = bind_ok (some_layer layers a.0.0) _ y a.2 in
    let c = bind_ok (ring_of u at a.0.1) _ y b.2 in
    subst AreFew (ok_is c.2) (few_layers (length layers) b.0 (Area c.0.points) c.0.width)

few_shape_list : (u : LengthUnit) (layers : List (List ℕ)) (at : ℕ) (w : Mark) (f : Forest) (word : ShapeWord) (y : List Shape) → shape_list u layers at w f word ≡ Ok y → AreFew y
few_shape_list u layers at w f shapes.Circle y e = few_circles u layers at f y e
few_shape_list u layers at w f shapes.Path y e = few_paths u layers at f y e
few_shape_list u layers at w f shapes.Rect y e = few_rects u layers at f y e
few_shape_list u layers at w f shapes.Polygon y e = few_polygons u layers at f y e
few_shape_list u layers at w f shapes.Arc y e = absurd (err_gives e)
few_shape_list u layers at w f shapes.Polyline y e = absurd (err_gives e)
few_shape_list u layers at w f shapes.Window y e = absurd (err_gives e)
few_shape_list u layers at w f shapes.Other y e = absurd (err_gives e)

-- one list adds at most 32 shapes
pub shape_item_few : (u : LengthUnit) (layers : List (List ℕ)) (ss : List Shape) (at : ℕ) (inside : Forest) (y : List Shape) → shape_item u layers ss at inside ≡ Ok y → length y ≤ length ss + 32
shape_item_few u layers ss at inside y e =
    let s = shape_parts u layers ss at inside y e in
    let few = few_shape_list u layers at s.0.0 s.0.1 (shape_word s.0.0.name) s.1 s.2 in
    let same = sym (length-append ss s.1) ∙ ap (λ (xs : List Shape). length xs) s.3 in
    omega (arith, few, same)

grown_shape : (u : LengthUnit) (layers : List (List ℕ)) (ss : List Shape) (at : ℕ) (inside : Forest) (y : List Shape) → shape_item u layers ss at inside ≡ Ok y → length y ≤ length ss + 32 * (1 + size inside)
grown_shape u layers ss at inside y e = let few = shape_item_few u layers ss at inside y e in omega (arith, few)

-- lists add at most 32 shapes for each word and list in them
pub shapes_of_few : (u : LengthUnit) (layers : List (List ℕ)) (ss : List Shape) (at : ℕ) (f : Forest) (y : List Shape) → shapes_of u layers ss at f ≡ Ok y → length y ≤ length ss + 32 * size f
unfolding shapes_of
shapes_of_few u layers ss at End y e = absurd (err_gives e)
shapes_of_few u layers ss at (Word a text rest) y e = absurd (err_gives e)
shapes_of_few u layers ss at (Branch a inside rest) y e = each_grows (λ (xs : List Shape). length xs) (shape_item u layers) (grown_shape u layers) ss (Branch a inside rest) y e
