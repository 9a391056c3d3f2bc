-- All points of moved shapes are in range exactly where the test passes.
use Rattle.std.proofs.Common.{◌≡◌, Bool, true, false, List, [], ◌∷◌, map, refl, sym, ◌∙◌}
use Rattle.std.specs.Prelude.{nat_le, ◌&&◌, ◌+ℤ◌, unsigned_abs}
use Rattle.std.specs.List.{AllByRecursion, list_all}
use Rattle.std.proofs.lemmas.Bool.{leb-true, le-leb}
use Rattle.seg_geometry.specs.declared.points.Pt.{Pt}
use Rattle.seg_geometry.specs.Points.{IsInRange}
use Rattle.area_geometry.specs.declared.shapes.Shape.{Shape}
use Rattle.area_geometry.specs.Copper.{core_points, moved}
use Rattle.dsn_reader.specs.Wirings.{is_near, is_point_near, is_shape_near, are_near}
use Rattle.dsn_reader.specs.ViaLists.{IsNear}

-- ---- range

and_on : (a b : Bool) → (a && b) ≡ true → (a ≡ true) × (b ≡ true)
and_on true b e = (refl, e)
and_on false b e = absurd cc

both_on : (a b : Bool) → a ≡ true → b ≡ true → (a && b) ≡ true
both_on a b p q = rw p q

point_near : (p q : Pt) → is_point_near p q ≡ true → IsInRange (moved p q)
unfolding is_near
point_near p q e =
    let s = and_on (nat_le (unsigned_abs (q.x +ℤ p.x)) 1000000000) (nat_le (unsigned_abs (q.y +ℤ p.y)) 1000000000) e in
    record { x = leb-true (unsigned_abs (q.x +ℤ p.x)) 1000000000 s.0; y = leb-true (unsigned_abs (q.y +ℤ p.y)) 1000000000 s.1 }

near_point : (p q : Pt) → IsInRange (moved p q) → is_point_near p q ≡ true
unfolding is_near
near_point p q h =
    both_on (nat_le (unsigned_abs (q.x +ℤ p.x)) 1000000000) (nat_le (unsigned_abs (q.y +ℤ p.y)) 1000000000) (le-leb (unsigned_abs (q.x +ℤ p.x)) 1000000000 h.x) (le-leb (unsigned_abs (q.y +ℤ p.y)) 1000000000 h.y)

points_near : (p : Pt) (qs : List Pt) → list_all (is_point_near p) qs ≡ true → AllByRecursion IsInRange (map (moved p) qs)
points_near p [] e = tt
points_near p (q ∷ qs) e = let s = and_on (is_point_near p q) (list_all (is_point_near p) qs) e in (point_near p q s.0, points_near p qs s.1)

near_points : (p : Pt) (qs : List Pt) → AllByRecursion IsInRange (map (moved p) qs) → list_all (is_point_near p) qs ≡ true
near_points p [] h = refl
near_points p (q ∷ qs) h = both_on (is_point_near p q) (list_all (is_point_near p) qs) (near_point p q h.0) (near_points p qs h.1)

shapes_near : (p : Pt) (ss : List Shape) → list_all (is_shape_near p) ss ≡ true → IsNear ss p
shapes_near p [] e = tt
shapes_near p (s ∷ ss) e = let a = and_on (is_shape_near p s) (list_all (is_shape_near p) ss) e in (points_near p (core_points s.core) a.0, shapes_near p ss a.1)

near_shapes : (p : Pt) (ss : List Shape) → IsNear ss p → list_all (is_shape_near p) ss ≡ true
near_shapes p [] h = refl
near_shapes p (s ∷ ss) h = both_on (is_shape_near p s) (list_all (is_shape_near p) ss) (near_points p (core_points s.core) h.0) (near_shapes p ss h.1)

pub near_found : (p : Pt) (ss : List Shape) → are_near p ss ≡ true → IsNear ss p
unfolding are_near
near_found p ss e = shapes_near p ss e

pub near_again : (p : Pt) (ss : List Shape) → IsNear ss p → are_near p ss ≡ true
unfolding are_near
near_again p ss h = near_shapes p ss h

unlike : false ≡ true → ⊥
unlike e = absurd cc

pub far_found : (p : Pt) (ss : List Shape) → are_near p ss ≡ false → IsNear ss p → ⊥
far_found p ss e h = unlike (sym e ∙ near_again p ss h)

pub far_again : (p : Pt) (ss : List Shape) → (IsNear ss p → ⊥) → are_near p ss ≡ false
far_again p ss never = by (are_near p ss) refl
  where
    by : (b : Bool) → are_near p ss ≡ b → b ≡ false
    by true is = absurd (never (near_found p ss is))
    by false is = refl
