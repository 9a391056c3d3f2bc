-- The least rectangle round the points of a list, one after another.
use Rattle.std.proofs.Common.{◌≡◌, ℕ, zero, suc, ◌+◌, ◌<◌, ◌⊎◌, inl, inr, List, [], ◌∷◌, length, get_or, arith, refl, sym, subst}
use Rattle.std.specs.Prelude.{ℤ, pos, ◌+ℤ◌, ◌-ℤ◌, Some, slice_get}
use Rattle.std.proofs.lemmas.Int.{ints}
use Rattle.std.proofs.lemmas.List.{get_or_default}
use Rattle.std.proofs.lemmas.List.Elements.{All-more}
use Rattle.std.proofs.lemmas.Option.{slice_get-get_or, get_or_from_slice_get}
use Rattle.seg_geometry.specs.declared.points.Pt.{Pt}
use Rattle.seg_geometry.specs.declared.rectangles.Rect.{Rect}
use Rattle.seg_geometry.specs.Rectangles.{IsLeastGrown}
use Rattle.seg_geometry.proofs.Frames.{IsBetween, IsFrame, IsFrame-more, IsLeastGrown-from_frame}

-- the first point is the least rectangle round itself
pub frame_first : (points : List Pt) (p : Pt) → slice_get points 0 ≡ Some p → IsFrame p.x p.y p.x p.y points 1
frame_first [] p e = absurd cc
frame_first (q ∷ rest) p e =
    let same : q ≡ p = cc in
    let between : Pt → Type 0 = λ r. IsBetween q.x q.y q.x q.y r.x r.y in
    let held : between q = record { left_of = omega (arith, ints); right_of = omega (arith, ints); above = omega (arith, ints); below = omega (arith, ints) } in
    subst (λ (z : Pt). IsFrame z.x z.y z.x z.y (q ∷ rest) 1) same
    (record {
      inside = All-more between (q ∷ rest) 0 q (omega arith) (λ k d lt. absurd (omega arith)) held;
      left_reached = (0, q, omega arith, refl, refl);
      low_reached = (0, q, omega arith, refl, refl);
      right_reached = (0, q, omega arith, refl, refl);
      high_reached = (0, q, omega arith, refl, refl);
    })

-- a point is one of the list's
pub is_at : (points : List Pt) (i : ℕ) (p : Pt) → slice_get points i ≡ Some p → p ≡ get_or points i p
is_at points i p e = sym (get_or_from_slice_get points i p p e)

-- the first i points have a least rectangle
record HasFrame (points : List Pt) (i : ℕ) : Type 0 where
  pub left : ℤ
  pub low : ℤ
  pub right : ℤ
  pub high : ℤ
  pub frame : IsFrame left low right high points i

frame_up_to : (points : List Pt) (d : Pt) (i : ℕ) → i < length points → HasFrame points (i + 1)
frame_up_to points d zero lt = record {
  left = (get_or points 0 d).x;
  low = (get_or points 0 d).y;
  right = (get_or points 0 d).x;
  high = (get_or points 0 d).y;
  frame = frame_first points (get_or points 0 d) (slice_get-get_or points 0 d lt);
}
frame_up_to points d (suc i) lt =
    let f = frame_up_to points d i (omega arith) in
    let next : i + 1 ≡ suc i = omega arith in
    record {
      left = _;
      low = _;
      right = _;
      high = _;
      frame = IsFrame-more f.left f.low f.right f.high points (suc i) (get_or points (suc i) d) lt (get_or_default points (suc i) d _ lt)
          (subst (λ (n : ℕ). IsFrame f.left f.low f.right f.high points n) next f.frame);
    }

-- points have a least rectangle, unless there are none
pub has_least : (points : List Pt) (by : ℕ) → (points ≡ []) ⊎ ((r : Rect) × IsLeastGrown r points by)
has_least [] by = inl refl
has_least (p ∷ rest) by =
    let f = frame_up_to (p ∷ rest) p (length rest) (omega arith) in
    let r : Rect = record {
      lo = record { x = f.left -ℤ pos by; y = f.low -ℤ pos by };
      hi = record { x = f.right +ℤ pos by; y = f.high +ℤ pos by };
    } in
    inr (r, IsLeastGrown-from_frame f.left f.low f.right f.high (p ∷ rest) (length rest + 1) by r (omega arith) f.frame refl refl refl refl)
