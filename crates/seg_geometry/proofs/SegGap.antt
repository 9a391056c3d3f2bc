-- Two segments keep a distance exactly if they do not meet in one point and each end keeps it from the other segment.
-- w leads from the start of the second segment to that of the first, u along the first, v along the second.
use Rattle.std.proofs.Common.{◌≡◌, ◌⊎◌, inl, inr, arith, sym, ap, subst, ◌∙◌}
use Rattle.std.specs.Prelude.{ℤ, pos, ◌≤ℤ◌, ◌<ℤ◌}
use Rattle.std.proofs.lemmas.Int.{by_lt_z}
use Rattle.seg_geometry.proofs.Ring.{◌⊕◌, ◌⊗◌, ⊖, linear, products, four_is, positive-times, nonneg-times, square_nonneg, times_is}
use Rattle.seg_geometry.proofs.Gap.{gap, norm, Keeps, gap_moved, norm-scaled, Keeps-pulled}
use Rattle.seg_geometry.proofs.Exit.{Within, OnBorder, Pulls, Outside, exit}
use Rattle.seg_geometry.proofs.PointGap.{reach, dot, cross, PointFar}
use Rattle.seg_geometry.proofs.WaysOut.{meet-x, meet-y, gap-minus, parallel-x, parallel-y, square_zero, still}

-- the distance is kept at a pair of points
abbrev pub GapAt : ℤ → ℤ → ℤ → ℤ → ℤ → ℤ → ℤ → ℤ → ℤ → ℤ → Type 0
GapAt k w1 w2 u1 u2 v1 v2 q p s = Keeps k q (norm (gap q p s w1 u1 v1) (gap q p s w2 u2 v2))

-- at each pair
abbrev pub SegFar : ℤ → ℤ → ℤ → ℤ → ℤ → ℤ → ℤ → Type 0
SegFar k w1 w2 u1 u2 v1 v2 = (q p s : ℤ) → Within q p → Within q s → GapAt k w1 w2 u1 u2 v1 v2 q p s

-- each end keeps it
pub record EndsFar (k w1 w2 u1 u2 v1 v2 : ℤ) : Type 0 where
  pub start : PointFar k w1 w2 v1 v2
  pub end : PointFar k (w1 ⊕ u1) (w2 ⊕ u2) v1 v2
  pub other_start : PointFar k (⊖ w1) (⊖ w2) u1 u2
  pub other_end : PointFar k (v1 ⊕ ⊖ w1) (v2 ⊕ ⊖ w2) u1 u2

-- a quotient (p/q, s/q) with its signs made good lies in the square
abbrev pub Touches : ℤ → ℤ → ℤ → Type 0
Touches q p s = (Within q p × Within q s) ⊎ (Within (⊖ q) (⊖ p) × Within (⊖ q) (⊖ s))

pub reach-left : (q s w u v : ℤ) → gap q (pos 0) s w u v ≡ reach q s w v
reach-left q s w u v = omega (arith, linear, times_is (pos 0) u)

pub reach-right : (q s w u v : ℤ) → gap q q s w u v ≡ reach q s (w ⊕ u) v
reach-right q s w u v = simp products (omega (arith, linear))

norm-minus : (x y : ℤ) → norm (⊖ x) (⊖ y) ≡ norm x y
norm-minus x y = simp products (omega (arith, linear))

gap-bottom : (q p w u v : ℤ) → gap q p (pos 0) w u v ≡ ⊖ (reach q p (⊖ w) u)
gap-bottom q p w u v = simp products (omega (arith, linear, times_is (pos 0) v, times_is v (pos 0)))

gap-top : (q p w u v : ℤ) → gap q p q w u v ≡ ⊖ (reach q p (v ⊕ ⊖ w) u)
gap-top q p w u v = simp products (omega (arith, linear))

pub norm-bottom : (q p w1 w2 u1 u2 v1 v2 : ℤ) → norm (gap q p (pos 0) w1 u1 v1) (gap q p (pos 0) w2 u2 v2) ≡ norm (reach q p (⊖ w1) u1) (reach q p (⊖ w2) u2)
norm-bottom q p w1 w2 u1 u2 v1 v2 = (λ i. norm (gap-bottom q p w1 u1 v1 i) (gap-bottom q p w2 u2 v2 i)) ∙ norm-minus _ _

pub norm-top : (q p w1 w2 u1 u2 v1 v2 : ℤ) → norm (gap q p q w1 u1 v1) (gap q p q w2 u2 v2) ≡ norm (reach q p (v1 ⊕ ⊖ w1) u1) (reach q p (v2 ⊕ ⊖ w2) u2)
norm-top q p w1 w2 u1 u2 v1 v2 = (λ i. norm (gap-top q p w1 u1 v1 i) (gap-top q p w2 u2 v2 i)) ∙ norm-minus _ _

pub border : (k w1 w2 u1 u2 v1 v2 : ℤ) → EndsFar k w1 w2 u1 u2 v1 v2 → OnBorder (GapAt k w1 w2 u1 u2 v1 v2)
border k w1 w2 u1 u2 v1 v2 ends = record {
  left = λ q s w. subst (λ (n : ℤ). Keeps k q n) (λ i. norm (sym (reach-left q s w1 u1 v1) i) (sym (reach-left q s w2 u2 v2) i)) (ends.start q s w);
  right = λ q s w. subst (λ (n : ℤ). Keeps k q n) (λ i. norm (sym (reach-right q s w1 u1 v1) i) (sym (reach-right q s w2 u2 v2) i)) (ends.end q s w);
  bottom = λ q p w. subst (λ (n : ℤ). Keeps k q n) (sym (norm-bottom q p w1 w2 u1 u2 v1 v2)) (ends.other_start q p w);
  top = λ q p w. subst (λ (n : ℤ). Keeps k q n) (sym (norm-top q p w1 w2 u1 u2 v1 v2)) (ends.other_end q p w);
}

pub ends : (k w1 w2 u1 u2 v1 v2 : ℤ) → SegFar k w1 w2 u1 u2 v1 v2 → EndsFar k w1 w2 u1 u2 v1 v2
ends k w1 w2 u1 u2 v1 v2 far =
    let none : (q s : ℤ) → Within q s → Within q (pos 0) = λ q s w. record { scale = w.scale; low = omega (arith, linear); high = omega (arith, linear, w.scale) } in
    let all : (q s : ℤ) → Within q s → Within q q = λ q s w. record { scale = w.scale; low = omega (arith, linear, w.scale); high = omega (arith, linear) } in
    record {
      start = λ q s w. subst (λ (n : ℤ). Keeps k q n) (λ i. norm (reach-left q s w1 u1 v1 i) (reach-left q s w2 u2 v2 i)) (far q (pos 0) s (none q s w) w);
      end = λ q s w. subst (λ (n : ℤ). Keeps k q n) (λ i. norm (reach-right q s w1 u1 v1 i) (reach-right q s w2 u2 v2 i)) (far q q s (all q s w) w);
      other_start = λ q p w. subst (λ (n : ℤ). Keeps k q n) (norm-bottom q p w1 w2 u1 u2 v1 v2) (far q p (pos 0) w (none q p w));
      other_end = λ q p w. subst (λ (n : ℤ). Keeps k q n) (norm-top q p w1 w2 u1 u2 v1 v2) (far q p q w (all q p w));
    }

-- towards a pair of points of the two lines that are one point, the gap only shrinks
pub pulls : (k w1 w2 u1 u2 v1 v2 q p s q0 p0 s0 : ℤ) → gap q0 p0 s0 w1 u1 v1 ≡ pos 0 → gap q0 p0 s0 w2 u2 v2 ≡ pos 0
    → pos 0 ≤ℤ q → pos 0 ≤ℤ q0 → Pulls (GapAt k w1 w2 u1 u2 v1 v2) q p s q0 p0 s0
pulls k w1 w2 u1 u2 v1 v2 q p s q0 p0 s0 e1 e2 hq hq0 l m hl hm h =
    let f1 = gap_moved l m q p s q0 p0 s0 w1 u1 v1 e1 in
    let f2 = gap_moved l m q p s q0 p0 s0 w2 u2 v2 e2 in
    let q' = l ⊗ q ⊕ m ⊗ q0 in
    let more = nonneg-times m q0 hm hq0 in
    let wider : l ⊗ q ≤ℤ q' = omega (arith, linear) in
    Keeps-pulled k l q q' _ hl hq wider
    (subst (λ (n : ℤ). Keeps k q' n) ((λ i. norm (f1 i) (f2 i)) ∙ norm-scaled l _ _) h)

pub in_or_out : (q p s : ℤ) → pos 0 <ℤ q → Outside q p s ⊎ (Within q p × Within q s)
in_or_out q p s h = by_lt_z p (pos 0) (λ a. inl (inl (inl a))) (λ a.
    by_lt_z q p (λ b. inl (inl (inr b))) (λ b.
    by_lt_z s (pos 0) (λ c. inl (inr (inl c))) (λ c.
    by_lt_z q s (λ d. inl (inr (inr d))) (λ d.
    inr (record { scale = h; low = a; high = b }, record { scale = h; low = c; high = d })))))

-- the ends decide, where the segments do not meet in one point
pub SegFar-from_ends : (k w1 w2 u1 u2 v1 v2 : ℤ) → EndsFar k w1 w2 u1 u2 v1 v2
    → ¬ (Touches (cross u1 u2 v1 v2) (cross v1 v2 w1 w2) (cross u1 u2 w1 w2)) → SegFar k w1 w2 u1 u2 v1 v2
SegFar-from_ends k w1 w2 u1 u2 v1 v2 far apart q p s wp ws =
    let G = GapAt k w1 w2 u1 u2 v1 v2 in
    let b = border k w1 w2 u1 u2 v1 v2 far in
    let hq : pos 0 ≤ℤ q = omega (arith, linear, wp.scale) in
    let d = cross u1 u2 v1 v2 in
    let p0 = cross v1 v2 w1 w2 in
    let s0 = cross u1 u2 w1 w2 in
    let mx = meet-x w1 w2 u1 u2 v1 v2 in
    let my = meet-y w1 w2 u1 u2 v1 v2 in
    let leave : (a x y : ℤ) → gap a x y w1 u1 v1 ≡ pos 0 → gap a x y w2 u2 v2 ≡ pos 0 → pos 0 ≤ℤ a → Outside a x y → G q p s =
    λ a x y e1 e2 ha o. exit G q p s a x y (pulls k w1 w2 u1 u2 v1 v2 q p s a x y e1 e2 hq ha) b wp ws ha o in
    by_lt_z d (pos 0)
    (λ neg.
    let P : Outside (⊖ d) (⊖ p0) (⊖ s0) ⊎ (Within (⊖ d) (⊖ p0) × Within (⊖ d) (⊖ s0)) = in_or_out (⊖ d) (⊖ p0) (⊖ s0) (omega (arith, linear)) in
    elim P [
      | inl o ↦ leave (⊖ d) (⊖ p0) (⊖ s0) (gap-minus d p0 s0 w1 u1 v1 mx) (gap-minus d p0 s0 w2 u2 v2 my) (omega (arith, linear)) o
      | inr i ↦ absurd (apart (inr i))
    ])
    (λ le. by_lt_z (pos 0) d
    (λ more.
    let P : Outside d p0 s0 ⊎ (Within d p0 × Within d s0) = in_or_out d p0 s0 more in
    elim P [ inl o ↦ leave d p0 s0 mx my le o | inr i ↦ absurd (apart (inl i)) ])
    (λ le2.
    let e : d ≡ pos 0 = omega (arith, linear) in
    by_lt_z (pos 0) (norm v1 v2)
    (λ some. leave (pos 0) (norm v1 v2) (dot u1 u2 v1 v2) (parallel-x w1 u1 u2 v1 v2 e) (parallel-y w2 u1 u2 v1 v2 e) (omega (arith, linear)) (inl (inr some)))
    (λ none.
    let x = square_nonneg v1 in
    let y = square_nonneg v2 in
    let z1 : v1 ≡ pos 0 = square_zero v1 (omega (arith, linear)) in
    let z2 : v2 ≡ pos 0 = square_zero v2 (omega (arith, linear)) in
    leave (pos 0) (pos 0) (pos 1) (still w1 u1 v1 z1) (still w2 u2 v2 z2) (omega (arith, linear)) (inr (inr (omega (arith, linear)))))))

-- segments that meet in one point keep no distance
no_room : (k q x y : ℤ) → pos 0 <ℤ k → pos 0 <ℤ q → x ≡ pos 0 → y ≡ pos 0 → ¬ (Keeps k q (norm x y))
no_room k q x y hk hq ex ey h =
    let a = positive-times (q ⊗ q) (k ⊗ k) (positive-times q q hq hq) (positive-times k k hk hk) in
    let nx : x ⊗ x ≡ pos 0 = ap (λ z. z ⊗ x) ex ∙ omega (arith, linear, times_is (pos 0) x) in
    let ny : y ⊗ y ≡ pos 0 = ap (λ z. z ⊗ y) ey ∙ omega (arith, linear, times_is (pos 0) y) in
    let b = h.keeps in
    omega (arith, linear, four_is)

pub SegFar-apart : (k w1 w2 u1 u2 v1 v2 : ℤ) → pos 0 <ℤ k → SegFar k w1 w2 u1 u2 v1 v2
    → ¬ (Touches (cross u1 u2 v1 v2) (cross v1 v2 w1 w2) (cross u1 u2 w1 w2))
SegFar-apart k w1 w2 u1 u2 v1 v2 hk far (inl i) =
    no_room k _ _ _ hk i.0.scale (meet-x w1 w2 u1 u2 v1 v2) (meet-y w1 w2 u1 u2 v1 v2) (far _ _ _ i.0 i.1)
SegFar-apart k w1 w2 u1 u2 v1 v2 hk far (inr i) =
    no_room k _ _ _ hk i.0.scale (gap-minus _ _ _ w1 u1 v1 (meet-x w1 w2 u1 u2 v1 v2)) (gap-minus _ _ _ w2 u2 v2 (meet-y w1 w2 u1 u2 v1 v2)) (far _ _ _ i.0 i.1)

-- no distance is kept by all
pub SegFar-zero : (w1 w2 u1 u2 v1 v2 : ℤ) → SegFar (pos 0) w1 w2 u1 u2 v1 v2
SegFar-zero w1 w2 u1 u2 v1 v2 q p s wp ws =
    let a = square_nonneg (gap q p s w1 u1 v1) in
    let b = square_nonneg (gap q p s w2 u2 v2) in
    let z : pos 0 ⊗ pos 0 ≡ pos 0 = omega (arith, linear, times_is (pos 0) (pos 0)) in
    let z2 : (q ⊗ q) ⊗ (pos 0 ⊗ pos 0) ≡ pos 0 = ap (λ x. (q ⊗ q) ⊗ x) z ∙ omega (arith, linear, times_is (q ⊗ q) (pos 0)) in
    record { keeps = omega (arith, linear, four_is) }
