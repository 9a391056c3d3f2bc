-- Segments keep a distance exactly where they don't cross and their ends keep it, by the definitions of specs/.
use Rattle.std.proofs.Common.{◌≡◌, ℕ, ◌<◌, arith, sym, subst}
use Rattle.std.specs.Prelude.{ℤ, pos}
use Rattle.seg_geometry.specs.declared.points.Seg.{Seg}
use Rattle.seg_geometry.specs.Apart.{IsApart}
use Rattle.seg_geometry.specs.Ends.{IsMeeting, EndsApart}
use Rattle.seg_geometry.proofs.Ring.{◌⊕◌, ⊖, linear}
use Rattle.seg_geometry.proofs.PointGap.{PointFar}
use Rattle.seg_geometry.proofs.SegGap.{ends, SegFar-from_ends, SegFar-apart, SegFar-zero}
use Rattle.seg_geometry.proofs.Bridge.{TouchesAt, point_out, point_in, apart_out, apart_in, meeting_out, meeting_in}

pub IsApart-zero : (s t : Seg) → IsApart s t 0
IsApart-zero s t = apart_in s t 0 (SegFar-zero _ _ _ _ _ _)

chain : (a b c : ℤ) → (a ⊕ ⊖ c) ⊕ (b ⊕ ⊖ a) ≡ b ⊕ ⊖ c
chain a b c = omega (arith, linear)

turn : (a c : ℤ) → ⊖ (a ⊕ ⊖ c) ≡ c ⊕ ⊖ a
turn a c = omega (arith, linear)

fork : (a c d : ℤ) → (d ⊕ ⊖ c) ⊕ ⊖ (a ⊕ ⊖ c) ≡ d ⊕ ⊖ a
fork a c d = omega (arith, linear)

pub IsApart-from_ends : (s t : Seg) (k : ℕ) → ¬ (IsMeeting s t) → EndsApart s t k → IsApart s t k
unfolding TouchesAt
IsApart-from_ends s t k apart e = apart_in s t k (SegFar-from_ends (pos k) _ _ _ _ _ _
    (record {
      start = point_out s.a t k e.a;
      end = subst (λ (x : ℤ). PointFar (pos k) x ((s.a.y ⊕ ⊖ t.a.y) ⊕ (s.b.y ⊕ ⊖ s.a.y)) (t.b.x ⊕ ⊖ t.a.x) (t.b.y ⊕ ⊖ t.a.y)) (sym (chain s.a.x s.b.x t.a.x))
          (subst (λ (y : ℤ). PointFar (pos k) (s.b.x ⊕ ⊖ t.a.x) y (t.b.x ⊕ ⊖ t.a.x) (t.b.y ⊕ ⊖ t.a.y)) (sym (chain s.a.y s.b.y t.a.y)) (point_out s.b t k e.b));
      other_start = subst (λ (x : ℤ). PointFar (pos k) x (⊖ (s.a.y ⊕ ⊖ t.a.y)) (s.b.x ⊕ ⊖ s.a.x) (s.b.y ⊕ ⊖ s.a.y)) (sym (turn s.a.x t.a.x))
          (subst (λ (y : ℤ). PointFar (pos k) (t.a.x ⊕ ⊖ s.a.x) y (s.b.x ⊕ ⊖ s.a.x) (s.b.y ⊕ ⊖ s.a.y)) (sym (turn s.a.y t.a.y)) (point_out t.a s k e.other_a));
      other_end = subst (λ (x : ℤ). PointFar (pos k) x ((t.b.y ⊕ ⊖ t.a.y) ⊕ ⊖ (s.a.y ⊕ ⊖ t.a.y)) (s.b.x ⊕ ⊖ s.a.x) (s.b.y ⊕ ⊖ s.a.y)) (sym (fork s.a.x t.a.x t.b.x))
          (subst (λ (y : ℤ). PointFar (pos k) (t.b.x ⊕ ⊖ s.a.x) y (s.b.x ⊕ ⊖ s.a.x) (s.b.y ⊕ ⊖ s.a.y)) (sym (fork s.a.y t.a.y t.b.y)) (point_out t.b s k e.other_b));
    })
    (λ m. apart (meeting_in s t m)))

pub IsMeeting-not_apart : (s t : Seg) (k : ℕ) → 0 < k → IsApart s t k → ¬ (IsMeeting s t)
unfolding TouchesAt
IsMeeting-not_apart s t k hk h m = SegFar-apart (pos k) _ _ _ _ _ _ (omega (arith, linear)) (apart_out s t k h) (meeting_out s t m)

pub EndsApart-from_apart : (s t : Seg) (k : ℕ) → IsApart s t k → EndsApart s t k
EndsApart-from_apart s t k h =
    let e = ends (pos k) _ _ _ _ _ _ (apart_out s t k h) in
    record {
      a = point_in s.a t k e.start;
      b = point_in s.b t k
          (subst (λ (y : ℤ). PointFar (pos k) (s.b.x ⊕ ⊖ t.a.x) y (t.b.x ⊕ ⊖ t.a.x) (t.b.y ⊕ ⊖ t.a.y)) (chain s.a.y s.b.y t.a.y)
          (subst (λ (x : ℤ). PointFar (pos k) x ((s.a.y ⊕ ⊖ t.a.y) ⊕ (s.b.y ⊕ ⊖ s.a.y)) (t.b.x ⊕ ⊖ t.a.x) (t.b.y ⊕ ⊖ t.a.y)) (chain s.a.x s.b.x t.a.x) e.end));
      other_a = point_in t.a s k
          (subst (λ (y : ℤ). PointFar (pos k) (t.a.x ⊕ ⊖ s.a.x) y (s.b.x ⊕ ⊖ s.a.x) (s.b.y ⊕ ⊖ s.a.y)) (turn s.a.y t.a.y)
          (subst (λ (x : ℤ). PointFar (pos k) x (⊖ (s.a.y ⊕ ⊖ t.a.y)) (s.b.x ⊕ ⊖ s.a.x) (s.b.y ⊕ ⊖ s.a.y)) (turn s.a.x t.a.x) e.other_start));
      other_b = point_in t.b s k
          (subst (λ (y : ℤ). PointFar (pos k) (t.b.x ⊕ ⊖ s.a.x) y (s.b.x ⊕ ⊖ s.a.x) (s.b.y ⊕ ⊖ s.a.y)) (fork s.a.y t.a.y t.b.y)
          (subst (λ (x : ℤ). PointFar (pos k) x ((t.b.y ⊕ ⊖ t.a.y) ⊕ ⊖ (s.a.y ⊕ ⊖ t.a.y)) (s.b.x ⊕ ⊖ s.a.x) (s.b.y ⊕ ⊖ s.a.y)) (fork s.a.x t.a.x t.b.x) e.other_end));
    }
