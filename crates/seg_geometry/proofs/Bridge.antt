-- From the definitions of specs/ to the forms that the lemmas are about.
use Rattle.std.proofs.Common.{◌≡◌, ℕ, ◌-◌, ◌*◌, ◌<◌, ◌≤◌, inl, inr, arith, sym, ap, subst, ◌∙◌}
use Rattle.std.specs.Prelude.{ℤ, pos, negsuc, ◌*ℤ◌, ◌≤ℤ◌}
use Rattle.seg_geometry.specs.declared.points.Pt.{Pt}
use Rattle.seg_geometry.specs.declared.points.Seg.{Seg}
use Rattle.seg_geometry.specs.Apart.{along, square_of, gap_squared, IsApart}
use Rattle.seg_geometry.specs.Ends.{point_gap_squared, cross_of, IsPointApart, IsMeeting, IsInUnitSquare, IsUnitQuotient}
use Rattle.seg_geometry.proofs.Ring.{◌⊕◌, ◌⊗◌, ⊖, linear, products}
use Rattle.seg_geometry.proofs.Gap.{gap, norm, Keeps}
use Rattle.seg_geometry.proofs.Exit.{Within}
use Rattle.seg_geometry.proofs.PointGap.{reach, cross, PointFar}
use Rattle.seg_geometry.proofs.SegGap.{SegFar, Touches}

less : (q r : ℕ) → r ≤ q → pos (q - r) ≡ pos q ⊕ ⊖ (pos r)
less q r h = omega (arith, linear)

reach-along : (q r : ℕ) (a c d : ℤ) → r ≤ q
    → pos q ⊗ a ⊕ ⊖ (pos (q - r) ⊗ c ⊕ pos r ⊗ d) ≡ reach (pos q) (pos r) (a ⊕ ⊖ c) (d ⊕ ⊖ c)
reach-along q r a c d h =
    ap (λ x. pos q ⊗ a ⊕ ⊖ (x ⊗ c ⊕ pos r ⊗ d)) (less q r h) ∙ simp products (omega (arith, linear))

gap-along : (q p r : ℕ) (a b c d : ℤ) → p ≤ q → r ≤ q
    → (pos (q - p) ⊗ a ⊕ pos p ⊗ b) ⊕ ⊖ (pos (q - r) ⊗ c ⊕ pos r ⊗ d) ≡ gap (pos q) (pos p) (pos r) (a ⊕ ⊖ c) (b ⊕ ⊖ a) (d ⊕ ⊖ c)
gap-along q p r a b c d hp hr =
    (λ i. (less q p hp i ⊗ a ⊕ pos p ⊗ b) ⊕ ⊖ (less q r hr i ⊗ c ⊕ pos r ⊗ d)) ∙ simp products (omega (arith, linear))

point_gap_is : (q r : ℕ) (p : Pt) (t : Seg) → r ≤ q
    → point_gap_squared q r p t ≡ norm (reach (pos q) (pos r) (p.x ⊕ ⊖ t.a.x) (t.b.x ⊕ ⊖ t.a.x)) (reach (pos q) (pos r) (p.y ⊕ ⊖ t.a.y) (t.b.y ⊕ ⊖ t.a.y))
unfolding point_gap_squared square_of along ◌⊕◌ ◌⊗◌ ⊖
point_gap_is q r p t h = λ i. norm (reach-along q r p.x t.a.x t.b.x h i) (reach-along q r p.y t.a.y t.b.y h i)

gap_is : (q p r : ℕ) (s t : Seg) → p ≤ q → r ≤ q
    → gap_squared q p r s t ≡ norm (gap (pos q) (pos p) (pos r) (s.a.x ⊕ ⊖ t.a.x) (s.b.x ⊕ ⊖ s.a.x) (t.b.x ⊕ ⊖ t.a.x)) (gap (pos q) (pos p) (pos r) (s.a.y ⊕ ⊖ t.a.y) (s.b.y ⊕ ⊖ s.a.y) (t.b.y ⊕ ⊖ t.a.y))
unfolding gap_squared square_of along ◌⊕◌ ◌⊗◌ ⊖
gap_is q p r s t hp hr = λ i. norm (gap-along q p r s.a.x s.b.x t.a.x t.b.x hp hr i) (gap-along q p r s.a.y s.b.y t.a.y t.b.y hp hr i)

keeps_out : (k q : ℕ) (n : ℤ) → pos (q * q * (k * k)) ≤ℤ (pos 4 *ℤ n) → Keeps (pos k) (pos q) n
unfolding ◌⊗◌
keeps_out k q n h = record { keeps = h }

keeps_in : (k q : ℕ) (n : ℤ) → Keeps (pos k) (pos q) n → pos (q * q * (k * k)) ≤ℤ (pos 4 *ℤ n)
unfolding ◌⊗◌
keeps_in k q n h = h.keeps

within : (q r : ℕ) → 0 < q → r ≤ q → Within (pos q) (pos r)
within q r h le = record { scale = omega (arith, linear); low = omega (arith, linear); high = omega (arith, linear) }

-- ---- a point

pub point_out : (p : Pt) (t : Seg) (k : ℕ) → IsPointApart p t k → PointFar (pos k) (p.x ⊕ ⊖ t.a.x) (p.y ⊕ ⊖ t.a.y) (t.b.x ⊕ ⊖ t.a.x) (t.b.y ⊕ ⊖ t.a.y)
point_out p t k h (pos q) (pos r) w =
    let hr : r ≤ q = omega (arith, linear, w.high) in
    keeps_out k q _ (subst (λ (n : ℤ). pos (q * q * (k * k)) ≤ℤ (pos 4 *ℤ n)) (point_gap_is q r p t hr) (h.apart q r (omega (arith, linear, w.scale)) hr))
point_out p t k h (pos q) (negsuc r) w = absurd (omega (arith, linear, w.low))
point_out p t k h (negsuc q) r w = absurd (omega (arith, linear, w.scale))

pub point_in : (p : Pt) (t : Seg) (k : ℕ) → PointFar (pos k) (p.x ⊕ ⊖ t.a.x) (p.y ⊕ ⊖ t.a.y) (t.b.x ⊕ ⊖ t.a.x) (t.b.y ⊕ ⊖ t.a.y) → IsPointApart p t k
point_in p t k f = record {
  apart = λ q r h le. subst (λ (n : ℤ). pos (q * q * (k * k)) ≤ℤ (pos 4 *ℤ n)) (sym (point_gap_is q r p t le)) (keeps_in k q _ (f (pos q) (pos r) (within q r h le)));
}

-- ---- two segments

pub apart_out : (s t : Seg) (k : ℕ) → IsApart s t k → SegFar (pos k) (s.a.x ⊕ ⊖ t.a.x) (s.a.y ⊕ ⊖ t.a.y) (s.b.x ⊕ ⊖ s.a.x) (s.b.y ⊕ ⊖ s.a.y) (t.b.x ⊕ ⊖ t.a.x) (t.b.y ⊕ ⊖ t.a.y)
apart_out s t k h (pos q) (pos p) (pos r) wp wr =
    let hp : p ≤ q = omega (arith, linear, wp.high) in
    let hr : r ≤ q = omega (arith, linear, wr.high) in
    keeps_out k q _ (subst (λ (n : ℤ). pos (q * q * (k * k)) ≤ℤ (pos 4 *ℤ n)) (gap_is q p r s t hp hr) (h.apart q p r (omega (arith, linear, wp.scale)) hp hr))
apart_out s t k h (pos q) (pos p) (negsuc r) wp wr = absurd (omega (arith, linear, wr.low))
apart_out s t k h (pos q) (negsuc p) r wp wr = absurd (omega (arith, linear, wp.low))
apart_out s t k h (negsuc q) p r wp wr = absurd (omega (arith, linear, wp.scale))

pub apart_in : (s t : Seg) (k : ℕ) → SegFar (pos k) (s.a.x ⊕ ⊖ t.a.x) (s.a.y ⊕ ⊖ t.a.y) (s.b.x ⊕ ⊖ s.a.x) (s.b.y ⊕ ⊖ s.a.y) (t.b.x ⊕ ⊖ t.a.x) (t.b.y ⊕ ⊖ t.a.y) → IsApart s t k
apart_in s t k f = record {
  apart = λ q p r h hp hr. subst (λ (n : ℤ). pos (q * q * (k * k)) ≤ℤ (pos 4 *ℤ n)) (sym (gap_is q p r s t hp hr)) (keeps_in k q _ (f (pos q) (pos p) (pos r) (within q p h hp) (within q r h hr)));
}

-- ---- the meeting

square_out : (q p s : ℤ) → IsInUnitSquare q p s → Within q p × Within q s
square_out q p s h = (record { scale = h.scale_positive; low = h.first_low; high = h.first_high }, record { scale = h.scale_positive; low = h.second_low; high = h.second_high })

square_in : (q p s : ℤ) → Within q p × Within q s → IsInUnitSquare q p s
square_in q p s w = record { scale_positive = w.0.scale; first_low = w.0.low; first_high = w.0.high; second_low = w.1.low; second_high = w.1.high }

touches_out : (q p s : ℤ) → IsUnitQuotient q p s → Touches q p s
unfolding ⊖
touches_out q p s (inl h) = inl (square_out q p s h)
touches_out q p s (inr h) = inr (square_out _ _ _ h)

touches_in : (q p s : ℤ) → Touches q p s → IsUnitQuotient q p s
unfolding ⊖
touches_in q p s (inl h) = inl (square_in q p s h)
touches_in q p s (inr h) = inr (square_in _ _ _ h)

-- where s and t meet, by the lemmas' cross products
unfoldable pub TouchesAt : Seg → Seg → Type 0
TouchesAt s t = Touches
    (cross (s.b.x ⊕ ⊖ s.a.x) (s.b.y ⊕ ⊖ s.a.y) (t.b.x ⊕ ⊖ t.a.x) (t.b.y ⊕ ⊖ t.a.y))
    (cross (t.b.x ⊕ ⊖ t.a.x) (t.b.y ⊕ ⊖ t.a.y) (s.a.x ⊕ ⊖ t.a.x) (s.a.y ⊕ ⊖ t.a.y))
    (cross (s.b.x ⊕ ⊖ s.a.x) (s.b.y ⊕ ⊖ s.a.y) (s.a.x ⊕ ⊖ t.a.x) (s.a.y ⊕ ⊖ t.a.y))

pub meeting_out : (s t : Seg) → IsMeeting s t → TouchesAt s t
unfolding TouchesAt cross_of ◌⊕◌ ◌⊗◌ ⊖
meeting_out s t h = touches_out _ _ _ h.meeting

pub meeting_in : (s t : Seg) → TouchesAt s t → IsMeeting s t
unfolding TouchesAt cross_of ◌⊕◌ ◌⊗◌ ⊖
meeting_in s t h = record { meeting = touches_in _ _ _ h }
