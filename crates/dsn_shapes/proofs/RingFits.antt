-- Rings and rectangles that are read are within the limits.
use Rattle.std.proofs.Common.{◌≡◌, ℕ, zero, suc, ◌-◌, ◌≤◌, Bool, true, false, List, [], ◌∷◌, take, length, Ok, subst, arith}
use Rattle.std.specs.Prelude.{nat_lt, is_some, ◌||◌, if◌then◌else◌}
use Rattle.std.specs.List.{AllByRecursion}
use Rattle.sexp_text.specs.Forest.{Forest}
use Rattle.sexp_text.specs.declared.units.Unit.{Unit as LengthUnit}
use Rattle.seg_geometry.specs.declared.points.Pt.{Pt}
use Rattle.seg_geometry.specs.Points.{IsInRange}
use Rattle.dsn_lists.specs.declared.places.Coordinates.{Coordinates}
use Rattle.dsn_lists.specs.declared.marks.Mark.{Mark}
use Rattle.dsn_lists.specs.Words.{word_of}
use Rattle.dsn_lists.specs.Numbers.{length_word, width_word}
use Rattle.dsn_lists.specs.Places.{point, no_coordinates, coordinates}
use Rattle.dsn_lists.specs.Shapes.{trail, point_of}
use Rattle.dsn_lists.proofs.Ranges.{AreInRange}
use Rattle.dsn_lists.proofs.Bounds.{ok_is, bind_ok, else_ok, length_word_bound, width_word_bound, coordinates_bound, no_coordinates_fit}
use Rattle.dsn_shapes.specs.declared.rings.Ring.{Ring}
use Rattle.dsn_shapes.specs.Rings.{is_closed, opened, as_ring, ring_of, corner_of, corners, rect_of}
use Rattle.board_rules.specs.Designs.{IsFitArea}

-- a ring of a width within the limits, by three points or more
pub record IsFitRing (r : Ring) : Type 0 where
  pub width : r.width ≤ 100000000
  pub area : IsFitArea r.points

-- what holds on both sides of an `if`
if_keeps : {X : Type 0} (Q : X → Type 0) (b : Bool) (x y : X) → Q x → Q y → Q (if b then x else y)
if_keeps Q true x y p q = p
if_keeps Q false x y p q = q

all_take : {X : Type 0} (P : X → Type 0) (n : ℕ) (xs : List X) → AllByRecursion P xs → AllByRecursion P (take n xs)
all_take P zero xs p = tt
all_take P (suc n) [] p = tt
all_take P (suc n) (x ∷ xs) p = (p.0, all_take P n xs p.1)

pub opened_all : (P : Pt → Type 0) (ps : List Pt) → AllByRecursion P ps → AllByRecursion P (opened ps)
unfolding opened
opened_all P ps p = if_keeps (AllByRecursion P) (is_closed ps) (take (length ps - 1) ps) ps (all_take P (length ps - 1) ps p) p

-- a rectangle has three corners left, where its last is its first again
corners_left : (p q : Pt) → 3 ≤ length (opened (corners p q))
unfolding opened
corners_left p q = if_keeps (λ (ps : List Pt). 3 ≤ length ps) (is_closed (corners p q)) (take 3 (corners p q)) (corners p q) (omega arith) (omega arith)

as_ring_fit : (at width : ℕ) (c : Coordinates) (y : Ring) → width ≤ 100000000 → AreInRange c → as_ring at width c ≡ Ok y → IsFitRing y
unfolding as_ring
as_ring_fit at width c y w fit e =
    let s = else_ok (is_some c.half || nat_lt (length (opened c.points)) 3) _ _ _ y e in
    let own : IsFitRing (record { width = width; points = opened c.points }) =
    record { width = w; area = record { points_fit = opened_all IsInRange c.points fit.points; count = grind (arith, s.0) } } in
    subst IsFitRing (ok_is s.1) own

-- a ring that is read is within the limits
pub ring_of_fit : (u : LengthUnit) (at : ℕ) (f : Forest) (y : Ring) → ring_of u at f ≡ Ok y → IsFitRing y
unfolding ring_of
ring_of_fit u at f y e =
    let a = bind_ok (word_of at f) _ y e in
    let b = bind_ok (width_word u a.0.0) _ y a.2 in
    let c = bind_ok (coordinates u no_coordinates a.0.1) _ y b.2 in
    let d = bind_ok (trail c.0.1) _ y c.2 in
    as_ring_fit at b.0 c.0.0 y (width_word_bound u a.0.0 b.0 b.1) (coordinates_bound u no_coordinates a.0.1 c.0 no_coordinates_fit c.1) d.2

point_of_fit : (u : LengthUnit) (at : ℕ) (w : Mark) (f : Forest) (y : Pt × Forest) → point_of u at w f ≡ Ok y → IsInRange y.0
unfolding point_of
point_of_fit u at w f y e =
    let a = bind_ok (length_word u w) _ y e in
    let b = bind_ok (word_of at f) _ y a.2 in
    let c = bind_ok (length_word u b.0.0) _ y b.2 in
    let own : IsInRange (point a.0 c.0) = record { x = length_word_bound u w a.0 a.1; y = length_word_bound u b.0.0 c.0 c.1 } in
    subst (λ (x : Pt × Forest). IsInRange x.0) (ok_is c.2) own

corner_of_fit : (u : LengthUnit) (at : ℕ) (f : Forest) (y : Pt × Forest) → corner_of u at f ≡ Ok y → IsInRange y.0
unfolding corner_of
corner_of_fit u at f y e = let a = bind_ok (word_of at f) _ y e in point_of_fit u at a.0.0 a.0.1 y a.2

corners_fit : (p q : Pt) → IsInRange p → IsInRange q → AllByRecursion IsInRange (corners p q)
corners_fit p q h k = (h, (record { x = k.x; y = h.y }, (k, (record { x = h.x; y = k.y }, tt))))

-- two corners, and that these are the corners of the rectangle
rect_parts : (u : LengthUnit) (at : ℕ) (f : Forest) (y : List Pt) → rect_of u at f ≡ Ok y → (p : Pt) × (q : Pt) × IsInRange p × IsInRange q × (corners p q ≡ y)
unfolding rect_of
rect_parts u at f y e =
    let a = bind_ok (corner_of u at f) _ y e in
    let b = bind_ok (corner_of u at a.0.1) _ y a.2 in
    let c = bind_ok (trail b.0.1) _ y b.2 in
    (a.0.0, b.0.0, corner_of_fit u at f a.0 a.1, corner_of_fit u at a.0.1 b.0 b.1, ok_is c.2)

-- a rectangle that is read has four corners in range
pub rect_of_fit : (u : LengthUnit) (at : ℕ) (f : Forest) (y : List Pt) → rect_of u at f ≡ Ok y → IsFitArea y
rect_of_fit u at f y e =
    let s = rect_parts u at f y e in
    let own : IsFitArea (corners s.0 s.1) = record { points_fit = corners_fit s.0 s.1 s.2 s.3; count = omega arith } in
    subst IsFitArea s.4 own

-- and so it is without a last corner that is the first again
pub opened_rect_fit : (u : LengthUnit) (at : ℕ) (f : Forest) (y : List Pt) → rect_of u at f ≡ Ok y → IsFitArea (opened y)
opened_rect_fit u at f y e =
    let s = rect_parts u at f y e in
    let own : IsFitArea (opened (corners s.0 s.1)) =
    record { points_fit = opened_all IsInRange (corners s.0 s.1) (corners_fit s.0 s.1 s.2 s.3); count = corners_left s.0 s.1 } in
    subst (λ (ps : List Pt). IsFitArea (opened ps)) s.4 own
