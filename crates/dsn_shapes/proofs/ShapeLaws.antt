-- What stands at the place of a shape draws what is read, and its fault is the one that is told.
use Rattle.std.proofs.Common.{◌≡◌, ℕ, List, [], ◌∷◌, ◌++◌, Ok, Err, refl, sym, ap, ◌∙◌, append_assoc, inl, inr}
use Rattle.std.proofs.lemmas.List.{append-nil}
use Rattle.sexp_text.specs.Forest.{Forest, End, Word, Branch}
use Rattle.sexp_text.specs.declared.units.Unit.{Unit as LengthUnit}
use Rattle.seg_geometry.specs.declared.points.Pt.{Pt}
use Rattle.area_geometry.specs.declared.shapes.Core.{Core}
use Rattle.area_geometry.specs.declared.shapes.Core.TheVariants.{Chain, Area}
use Rattle.area_geometry.specs.declared.shapes.Shape.{Shape}
use Rattle.dsn_lists.specs.declared.faults.DesignFault.{DesignFault}
use Rattle.dsn_lists.specs.declared.marks.Mark.{Mark}
use Rattle.dsn_lists.specs.declared.shapes.Path.{Path}
use Rattle.dsn_lists.specs.declared.shapes.Circle.{Circle}
use Rattle.dsn_lists.specs.Words.{mark, word_of}
use Rattle.dsn_lists.specs.Shapes.{path_of, circle_of}
use Rattle.dsn_lists.specs.ShapeLists.{IsPath, PathFault, IsCircle, CircleFault}
use Rattle.dsn_lists.proofs.Firsts.{made, failed, ok_is, bind_ok, bind_err, word_fault, word_fault_again}
use Rattle.dsn_lists.proofs.JoinLaws.{Adds}
use Rattle.dsn_lists.proofs.PathLaws.{path_found, path_again, path_fault, path_fault_again}
use Rattle.dsn_lists.proofs.CircleLaws.{circle_found, circle_again, circle_fault, circle_fault_again}
use Rattle.dsn_shapes.specs.declared.rings.Ring.{Ring}
use Rattle.dsn_shapes.specs.declared.drawn.ShapeWord.{ShapeWord}
use Rattle.dsn_shapes.specs.declared.drawn.ShapeWord.TheVariants as shapes
use Rattle.dsn_shapes.specs.Rings.{rect_of, ring_of}
use Rattle.dsn_shapes.specs.Drawn.{shape_word, circles, paths, rects, polygons, behind, shape_list, shape_item}
use Rattle.dsn_shapes.specs.RectLists.{IsRect, RectFault}
use Rattle.dsn_shapes.specs.RingLists.{IsRing, RingFault}
use Rattle.dsn_shapes.specs.DrawnLists.{DrawsBy, Draws, DrawsByFault, ShapeFault}
use Rattle.dsn_shapes.proofs.RectLaws.{rect_found, rect_again, rect_fault, rect_fault_again}
use Rattle.dsn_shapes.proofs.RingLaws.{ring_found, ring_again, ring_fault, ring_fault_again}
use Rattle.dsn_shapes.proofs.DrawnLaws.{Meets, drawn, drawn_found, drawn_again, drawn_fault, drawn_first}

-- ---- the kinds of shapes

circle_meets : (u : LengthUnit) (at : ℕ) → Meets (circle_of u at) (IsCircle u) (CircleFault u at)
circle_meets u at = record { found = circle_found u at; again = circle_again u at; fault = circle_fault u at; first = circle_fault_again u at }

path_meets : (u : LengthUnit) (at : ℕ) → Meets (path_of u at) (IsPath u) (PathFault u at)
path_meets u at = record { found = path_found u at; again = path_again u at; fault = path_fault u at; first = path_fault_again u at }

pub rect_meets : (u : LengthUnit) (at : ℕ) → Meets (rect_of u at) (IsRect u) (RectFault u at)
rect_meets u at = record { found = rect_found u at; again = rect_again u at; fault = rect_fault u at; first = rect_fault_again u at }

pub ring_meets : (u : LengthUnit) (at : ℕ) → Meets (ring_of u at) (IsRing u) (RingFault u at)
ring_meets u at = record { found = ring_found u at; again = ring_again u at; fault = ring_fault u at; first = ring_fault_again u at }

abbrev circle_core : Circle → Core
circle_core c = Chain (c.centre ∷ [])

abbrev circle_width : Circle → ℕ
circle_width c = c.width

abbrev path_core : Path → Core
path_core p = Chain p.points

abbrev path_width : Path → ℕ
path_width p = p.width

abbrev rect_core : List Pt → Core
rect_core ps = Area ps

abbrev rect_width : List Pt → ℕ
rect_width ps = 0

abbrev ring_core : Ring → Core
ring_core r = Area r.points

abbrev ring_width : Ring → ℕ
ring_width r = r.width

circles_are : (u : LengthUnit) (layers : List (List ℕ)) (at : ℕ) (f : Forest) → circles u layers at f ≡ drawn (circle_of u at) circle_core circle_width layers at f
unfolding circles
circles_are u layers at f = refl

paths_are : (u : LengthUnit) (layers : List (List ℕ)) (at : ℕ) (f : Forest) → paths u layers at f ≡ drawn (path_of u at) path_core path_width layers at f
unfolding paths
paths_are u layers at f = refl

rects_are : (u : LengthUnit) (layers : List (List ℕ)) (at : ℕ) (f : Forest) → rects u layers at f ≡ drawn (rect_of u at) rect_core rect_width layers at f
unfolding rects
rects_are u layers at f = refl

polygons_are : (u : LengthUnit) (layers : List (List ℕ)) (at : ℕ) (f : Forest) → polygons u layers at f ≡ drawn (ring_of u at) ring_core ring_width layers at f
unfolding polygons
polygons_are u layers at f = refl

-- ---- what stands at the place of a shape

by_found : (u : LengthUnit) (layers : List (List ℕ)) (at : ℕ) (w : Mark) (f : Forest) (k : ShapeWord) (ss : List Shape) → shape_list u layers at w f k ≡ Ok ss → DrawsBy u layers k f ss
by_found u layers at w f shapes.Circle ss e = drawn_found (circle_of u at) (IsCircle u) (CircleFault u at) (circle_meets u at) circle_core circle_width layers at f ss (sym (circles_are u layers at f) ∙ e)
by_found u layers at w f shapes.Path ss e = drawn_found (path_of u at) (IsPath u) (PathFault u at) (path_meets u at) path_core path_width layers at f ss (sym (paths_are u layers at f) ∙ e)
by_found u layers at w f shapes.Rect ss e = drawn_found (rect_of u at) (IsRect u) (RectFault u at) (rect_meets u at) rect_core rect_width layers at f ss (sym (rects_are u layers at f) ∙ e)
by_found u layers at w f shapes.Polygon ss e = drawn_found (ring_of u at) (IsRing u) (RingFault u at) (ring_meets u at) ring_core ring_width layers at f ss (sym (polygons_are u layers at f) ∙ e)
by_found u layers at w f shapes.Arc ss e = absurd cc
by_found u layers at w f shapes.Polyline ss e = absurd cc
by_found u layers at w f shapes.Window ss e = absurd cc
by_found u layers at w f shapes.Other ss e = absurd cc

by_again : (u : LengthUnit) (layers : List (List ℕ)) (at : ℕ) (w : Mark) (f : Forest) (k : ShapeWord) (ss : List Shape) → DrawsBy u layers k f ss → shape_list u layers at w f k ≡ Ok ss
by_again u layers at w f shapes.Circle ss h = circles_are u layers at f ∙ drawn_again (circle_of u at) (IsCircle u) (CircleFault u at) (circle_meets u at) circle_core circle_width layers at f ss h
by_again u layers at w f shapes.Path ss h = paths_are u layers at f ∙ drawn_again (path_of u at) (IsPath u) (PathFault u at) (path_meets u at) path_core path_width layers at f ss h
by_again u layers at w f shapes.Rect ss h = rects_are u layers at f ∙ drawn_again (rect_of u at) (IsRect u) (RectFault u at) (rect_meets u at) rect_core rect_width layers at f ss h
by_again u layers at w f shapes.Polygon ss h = polygons_are u layers at f ∙ drawn_again (ring_of u at) (IsRing u) (RingFault u at) (ring_meets u at) ring_core ring_width layers at f ss h
by_again u layers at w f shapes.Arc ss h = absurd h
by_again u layers at w f shapes.Polyline ss h = absurd h
by_again u layers at w f shapes.Window ss h = absurd h
by_again u layers at w f shapes.Other ss h = absurd h

by_fault : (u : LengthUnit) (layers : List (List ℕ)) (at : ℕ) (w : Mark) (f : Forest) (k : ShapeWord) (e : DesignFault) → shape_list u layers at w f k ≡ Err e → DrawsByFault u layers at w.at k f e
by_fault u layers at w f shapes.Circle e h = drawn_fault (circle_of u at) (IsCircle u) (CircleFault u at) (circle_meets u at) circle_core circle_width layers at f e (sym (circles_are u layers at f) ∙ h)
by_fault u layers at w f shapes.Path e h = drawn_fault (path_of u at) (IsPath u) (PathFault u at) (path_meets u at) path_core path_width layers at f e (sym (paths_are u layers at f) ∙ h)
by_fault u layers at w f shapes.Rect e h = drawn_fault (rect_of u at) (IsRect u) (RectFault u at) (rect_meets u at) rect_core rect_width layers at f e (sym (rects_are u layers at f) ∙ h)
by_fault u layers at w f shapes.Polygon e h = drawn_fault (ring_of u at) (IsRing u) (RingFault u at) (ring_meets u at) ring_core ring_width layers at f e (sym (polygons_are u layers at f) ∙ h)
by_fault u layers at w f shapes.Arc e h = cc
by_fault u layers at w f shapes.Polyline e h = cc
by_fault u layers at w f shapes.Window e h = cc
by_fault u layers at w f shapes.Other e h = cc

by_fault_again : (u : LengthUnit) (layers : List (List ℕ)) (at : ℕ) (w : Mark) (f : Forest) (k : ShapeWord) (e : DesignFault) → DrawsByFault u layers at w.at k f e → shape_list u layers at w f k ≡ Err e
by_fault_again u layers at w f shapes.Circle e h = circles_are u layers at f ∙ drawn_first (circle_of u at) (IsCircle u) (CircleFault u at) (circle_meets u at) circle_core circle_width layers at f e h
by_fault_again u layers at w f shapes.Path e h = paths_are u layers at f ∙ drawn_first (path_of u at) (IsPath u) (PathFault u at) (path_meets u at) path_core path_width layers at f e h
by_fault_again u layers at w f shapes.Rect e h = rects_are u layers at f ∙ drawn_first (rect_of u at) (IsRect u) (RectFault u at) (rect_meets u at) rect_core rect_width layers at f e h
by_fault_again u layers at w f shapes.Polygon e h = polygons_are u layers at f ∙ drawn_first (ring_of u at) (IsRing u) (RingFault u at) (ring_meets u at) ring_core ring_width layers at f e h
by_fault_again u layers at w f shapes.Arc e h = ap failed (sym h)
by_fault_again u layers at w f shapes.Polyline e h = ap failed (sym h)
by_fault_again u layers at w f shapes.Window e h = ap failed (sym h)
by_fault_again u layers at w f shapes.Other e h = ap failed (sym h)

pub item_found : (u : LengthUnit) (layers : List (List ℕ)) (ss : List Shape) (at : ℕ) (inside : Forest) (ts : List Shape) → shape_item u layers ss at inside ≡ Ok ts → (xs : List Shape) × Draws u layers inside xs × (ts ≡ ss ++ xs)
unfolding shape_item word_of
item_found u layers ss at End ts e = absurd cc
item_found u layers ss at (Branch a inside rest) ts e = absurd cc
item_found u layers ss at (Word a text rest) ts e =
    let xs = bind_ok (shape_list u layers at (mark a text) rest (shape_word text)) (λ xs. made (ss ++ xs)) ts e in
    (xs.0, by_found u layers at (mark a text) rest (shape_word text) xs.0 xs.1, sym (ok_is (ss ++ xs.0) ts xs.2))

pub item_again : (u : LengthUnit) (layers : List (List ℕ)) (ss : List Shape) (at : ℕ) (inside : Forest) (xs : List Shape) → Draws u layers inside xs → shape_item u layers ss at inside ≡ Ok (ss ++ xs)
unfolding shape_item word_of
item_again u layers ss at End xs h = absurd h
item_again u layers ss at (Branch a inside rest) xs h = absurd h
item_again u layers ss at (Word a text rest) xs h = rw (by_again u layers at (mark a text) rest (shape_word text) xs h) refl

abbrev ShapeWordFault : LengthUnit → List (List ℕ) → ℕ → ℕ → List ℕ → Forest → DesignFault → Type 0
ShapeWordFault u layers at a text rest e = DrawsByFault u layers at a (shape_word text) rest e

shape_word_fault : (u : LengthUnit) (layers : List (List ℕ)) (ss : List Shape) (at a : ℕ) (text : List ℕ) (rest : Forest) (e : DesignFault) → behind ss (shape_list u layers at (mark a text) rest (shape_word text)) ≡ Err e → ShapeWordFault u layers at a text rest e
shape_word_fault u layers ss at a text rest e k =
    elim (bind_err (shape_list u layers at (mark a text) rest (shape_word text)) (λ xs. made (ss ++ xs)) e k) [
      | inl here ↦ by_fault u layers at (mark a text) rest (shape_word text) e here
      | inr later ↦ absurd cc
    ]

pub item_fault : (u : LengthUnit) (layers : List (List ℕ)) (ss : List Shape) (before inside : Forest) (at : ℕ) (e : DesignFault) → shape_item u layers ss at inside ≡ Err e → ShapeFault u layers before at inside e
unfolding shape_item
item_fault u layers ss before inside at e h = word_fault _ (ShapeWordFault u layers at) at inside e (λ a text rest k. shape_word_fault u layers ss at a text rest e k) h

pub item_fault_again : (u : LengthUnit) (layers : List (List ℕ)) (ss : List Shape) (before inside : Forest) (at : ℕ) (e : DesignFault) → ShapeFault u layers before at inside e → shape_item u layers ss at inside ≡ Err e
unfolding shape_item
item_fault_again u layers ss before inside at e h =
    word_fault_again _ (ShapeWordFault u layers at) at inside e (λ a text rest k. rw (by_fault_again u layers at (mark a text) rest (shape_word text) e k) refl) h

-- each list adds the shapes that it draws
pub shapes_add : (u : LengthUnit) (layers : List (List ℕ)) → Adds (shape_item u layers) (λ ss xs. ss ++ xs) (Draws u layers)
shapes_add u layers = record {
  none = λ s. sym (append-nil s);
  more = λ s xs ys. append_assoc s xs ys;
  found = item_found u layers;
  again = item_again u layers;
}
