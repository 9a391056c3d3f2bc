-- The areas of an outline are within the limits.
use Rattle.std.proofs.Common.{◌≡◌, ℕ, ◌+◌, ◌*◌, ◌≤◌, List, [], ◌∷◌, ◌++◌, length, Ok, sym, ap, ◌∙◌, subst, arith}
use Rattle.std.proofs.lemmas.List.{length-append}
use Rattle.sexp_text.specs.Forest.{Forest, End, Word, Branch}
use Rattle.sexp_text.specs.Nodes.{size}
use Rattle.sexp_text.specs.declared.units.Unit.{Unit as LengthUnit}
use Rattle.seg_geometry.specs.declared.points.Pt.{Pt}
use Rattle.dsn_lists.specs.declared.marks.Mark.{Mark}
use Rattle.dsn_lists.specs.Words.{word_of}
use Rattle.dsn_lists.proofs.Bounds.{ok_is, err_gives, bind_ok, each_keeps, all_push}
use Rattle.dsn_lists.proofs.Sizes.{each_grows}
use Rattle.dsn_shapes.specs.declared.drawn.ShapeWord.{ShapeWord}
use Rattle.dsn_shapes.specs.declared.drawn.ShapeWord.TheVariants as shapes
use Rattle.dsn_shapes.specs.Rings.{ring_of, rect_of}
use Rattle.dsn_shapes.specs.Drawn.{shape_word}
use Rattle.dsn_shapes.specs.Outlines.{outline_layer, rect_outline, ring_outline, outline_list, outline_of, outline_item, outlines_of}
use Rattle.board_rules.specs.Designs.{IsFitArea}
use Rattle.dsn_shapes.specs.Limits.{AreFitAreas}
use Rattle.dsn_shapes.proofs.RingFits.{ring_of_fit, opened_rect_fit}

fit_rect_outline : (u : LengthUnit) (at : ℕ) (f : Forest) (y : List Pt) → rect_outline u at f ≡ Ok y → IsFitArea y
unfolding rect_outline
fit_rect_outline u at f y e =
    let a = bind_ok (word_of at f) _ y e in
    let b = bind_ok (outline_layer a.0.0) _ y a.2 in
    let c = bind_ok (rect_of u at a.0.1) _ y b.2 in
    subst IsFitArea (ok_is c.2) (opened_rect_fit u at a.0.1 c.0 c.1)

fit_ring_outline : (u : LengthUnit) (at : ℕ) (f : Forest) (y : List Pt) → ring_outline u at f ≡ Ok y → IsFitArea y
unfolding ring_outline
fit_ring_outline u at f y e =
    let a = bind_ok (word_of at f) _ y e in
    let b = bind_ok (outline_layer a.0.0) _ y a.2 in
    let c = bind_ok (ring_of u at a.0.1) _ y b.2 in
    subst IsFitArea (ok_is c.2) (ring_of_fit u at a.0.1 c.0 c.1).area

fit_outline_list : (u : LengthUnit) (at : ℕ) (w : Mark) (f : Forest) (word : ShapeWord) (y : List Pt) → outline_list u at w f word ≡ Ok y → IsFitArea y
fit_outline_list u at w f shapes.Circle y e = absurd (err_gives e)
fit_outline_list u at w f shapes.Path y e = fit_ring_outline u at f y e
fit_outline_list u at w f shapes.Rect y e = fit_rect_outline u at f y e
fit_outline_list u at w f shapes.Polygon y e = fit_ring_outline u at f y e
fit_outline_list u at w f shapes.Arc y e = absurd (err_gives e)
fit_outline_list u at w f shapes.Polyline y e = absurd (err_gives e)
fit_outline_list u at w f shapes.Window y e = absurd (err_gives e)
fit_outline_list u at w f shapes.Other y e = absurd (err_gives e)

fit_outline_of : (u : LengthUnit) (at : ℕ) (inside : Forest) (y : List Pt) → outline_of u at inside ≡ Ok y → IsFitArea y
unfolding outline_of
fit_outline_of u at inside y e =
    let a = bind_ok (word_of at inside) _ y e in
    fit_outline_list u at a.0.0 a.0.1 (shape_word a.0.0.name) y a.2

-- the area of a list, and that it is put behind
outline_parts : (u : LengthUnit) (areas : List (List Pt)) (at : ℕ) (inside : Forest) (y : List (List Pt)) → outline_item u areas at inside ≡ Ok y
    → (ps : List Pt) × (outline_of u at inside ≡ Ok ps) × (areas ++ ps ∷ [] ≡ y)
unfolding outline_item
outline_parts u areas at inside y e =
    let a = bind_ok (outline_of u at inside) _ y e in
    (a.0, a.1, ok_is a.2)

fit_outline_item : (u : LengthUnit) (areas : List (List Pt)) (at : ℕ) (inside : Forest) (y : List (List Pt)) → AreFitAreas areas → outline_item u areas at inside ≡ Ok y → AreFitAreas y
fit_outline_item u areas at inside y p e =
    let s = outline_parts u areas at inside y e in
    subst AreFitAreas s.2 (all_push IsFitArea areas s.0 p (fit_outline_of u at inside s.0 s.1))

-- behind areas within the limits, those of a boundary are so too
pub outlines_of_fit : (u : LengthUnit) (areas : List (List Pt)) (at : ℕ) (f : Forest) (y : List (List Pt)) → AreFitAreas areas → outlines_of u areas at f ≡ Ok y → AreFitAreas y
unfolding outlines_of
outlines_of_fit u areas at End y p e = absurd (err_gives e)
outlines_of_fit u areas at (Word a text rest) y p e = absurd (err_gives e)
outlines_of_fit u areas at (Branch a inside rest) y p e = each_keeps AreFitAreas (outline_item u) (fit_outline_item u) areas (Branch a inside rest) y p e

grown_outline : (u : LengthUnit) (areas : List (List Pt)) (at : ℕ) (inside : Forest) (y : List (List Pt)) → outline_item u areas at inside ≡ Ok y → length y ≤ length areas + 32 * (1 + size inside)
grown_outline u areas at inside y e =
    let s = outline_parts u areas at inside y e in
    let same = sym (length-append areas (s.0 ∷ [])) ∙ ap (λ (xs : List (List Pt)). length xs) s.2 in
    omega (arith, same)

-- a boundary adds at most 32 areas for each word and list in it
pub outlines_of_few : (u : LengthUnit) (areas : List (List Pt)) (at : ℕ) (f : Forest) (y : List (List Pt)) → outlines_of u areas at f ≡ Ok y → length y ≤ length areas + 32 * size f
unfolding outlines_of
outlines_of_few u areas at End y e = absurd (err_gives e)
outlines_of_few u areas at (Word a text rest) y e = absurd (err_gives e)
outlines_of_few u areas at (Branch a inside rest) y e = each_grows (λ (xs : List (List Pt)). length xs) (outline_item u) (grown_outline u) areas (Branch a inside rest) y e
