-- What `meets` and `seg_keeps` compute, against the definitions.
use Rattle.std.proofs.Common.{◌≡◌, ℕ, ◌<◌, ◌↔◌, sym, subst, ◌∙◌}
use Rattle.std.specs.Prelude.{ℤ, ◌-ℤ◌, ◌*ℤ◌}
use Rattle.seg_geometry.specs.declared.points.Seg.{Seg}
use Rattle.seg_geometry.specs.Apart.{IsApart}
use Rattle.seg_geometry.specs.Ends.{cross_of, IsMeeting, IsUnitQuotient, EndsApart}
use Rattle.seg_geometry.proofs.Decided.{IsApart-zero, IsApart-from_ends, IsMeeting-not_apart, EndsApart-from_apart}

-- u leads along s, v along t, and w from the start of t to that of s
pub record Ways (s t : Seg) (ux uy vx vy wx wy : ℤ) : Type 0 where
  pub ux_is : ux ≡ s.b.x -ℤ s.a.x
  pub uy_is : uy ≡ s.b.y -ℤ s.a.y
  pub vx_is : vx ≡ t.b.x -ℤ t.a.x
  pub vy_is : vy ≡ t.b.y -ℤ t.a.y
  pub wx_is : wx ≡ s.a.x -ℤ t.a.x
  pub wy_is : wy ≡ s.a.y -ℤ t.a.y

pub meets_iff : (s t : Seg) (ux uy vx vy wx wy scale first second : ℤ) → Ways s t ux uy vx vy wx wy
    → scale ≡ ux *ℤ vy -ℤ uy *ℤ vx → first ≡ vx *ℤ wy -ℤ vy *ℤ wx → second ≡ ux *ℤ wy -ℤ uy *ℤ wx
    → IsUnitQuotient scale first second ↔ IsMeeting s t
unfolding cross_of
meets_iff s t ux uy vx vy wx wy scale first second w e f g =
    let a = cross_of (s.b.x -ℤ s.a.x) (s.b.y -ℤ s.a.y) (t.b.x -ℤ t.a.x) (t.b.y -ℤ t.a.y) in
    let b = cross_of (t.b.x -ℤ t.a.x) (t.b.y -ℤ t.a.y) (s.a.x -ℤ t.a.x) (s.a.y -ℤ t.a.y) in
    let c = cross_of (s.b.x -ℤ s.a.x) (s.b.y -ℤ s.a.y) (s.a.x -ℤ t.a.x) (s.a.y -ℤ t.a.y) in
    let e' : scale ≡ a = e ∙ (λ i. w.ux_is i *ℤ w.vy_is i -ℤ w.uy_is i *ℤ w.vx_is i) in
    let f' : first ≡ b = f ∙ (λ i. w.vx_is i *ℤ w.wy_is i -ℤ w.vy_is i *ℤ w.wx_is i) in
    let g' : second ≡ c = g ∙ (λ i. w.ux_is i *ℤ w.wy_is i -ℤ w.uy_is i *ℤ w.wx_is i) in (
      λ h. record { meeting = subst (λ (x : ℤ). IsUnitQuotient x b c) e' (subst (λ (x : ℤ). IsUnitQuotient scale x c) f' (subst (λ (x : ℤ). IsUnitQuotient scale first x) g' h)) },
      λ m. subst (λ (x : ℤ). IsUnitQuotient scale first x) (sym g') (subst (λ (x : ℤ). IsUnitQuotient scale x c) (sym f') (subst (λ (x : ℤ). IsUnitQuotient x b c) (sym e') m.meeting)),
    )

pub apart_at_zero : (s t : Seg) (k : ℕ) → k ≡ 0 → IsApart s t k
apart_at_zero s t k e = subst (λ (n : ℕ). IsApart s t n) (sym e) (IsApart-zero s t)

pub apart_iff : (s t : Seg) (k : ℕ) → 0 < k → ¬ (IsMeeting s t) → EndsApart s t k ↔ IsApart s t k
apart_iff s t k h clear = (IsApart-from_ends s t k clear, EndsApart-from_apart s t k)

pub not_apart : (s t : Seg) (k : ℕ) → 0 < k → IsMeeting s t → ¬ (IsApart s t k)
not_apart s t k h m a = IsMeeting-not_apart s t k h a m
