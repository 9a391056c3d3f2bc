-- Ways along which the gap between two lines doesn't change: towards where they meet, or along both where they are parallel.
use Rattle.std.proofs.Common.{◌≡◌, arith, ap, ◌∙◌}
use Rattle.std.specs.Prelude.{ℤ, pos, ◌≤ℤ◌, ◌<ℤ◌}
use Rattle.std.proofs.lemmas.Int.{by_lt_z}
use Rattle.seg_geometry.proofs.Ring.{◌⊗◌, ⊖, linear, products, positive-times, times_is}
use Rattle.seg_geometry.proofs.Gap.{gap, norm}
use Rattle.seg_geometry.proofs.PointGap.{dot, cross}

-- where the two lines meet, times the lines' cross product
pub meet-x : (w1 w2 u1 u2 v1 v2 : ℤ) → gap (cross u1 u2 v1 v2) (cross v1 v2 w1 w2) (cross u1 u2 w1 w2) w1 u1 v1 ≡ pos 0
meet-x w1 w2 u1 u2 v1 v2 = simp products (omega (arith, linear))

pub meet-y : (w1 w2 u1 u2 v1 v2 : ℤ) → gap (cross u1 u2 v1 v2) (cross v1 v2 w1 w2) (cross u1 u2 w1 w2) w2 u2 v2 ≡ pos 0
meet-y w1 w2 u1 u2 v1 v2 = simp products (omega (arith, linear))

pub gap-minus : (q p s w u v : ℤ) → gap q p s w u v ≡ pos 0 → gap (⊖ q) (⊖ p) (⊖ s) w u v ≡ pos 0
gap-minus q p s w u v e = simp products (omega (arith, linear))

-- parallel lines
pub parallel-x : (w1 u1 u2 v1 v2 : ℤ) → cross u1 u2 v1 v2 ≡ pos 0 → gap (pos 0) (norm v1 v2) (dot u1 u2 v1 v2) w1 u1 v1 ≡ pos 0
parallel-x w1 u1 u2 v1 v2 e =
    let f : gap (pos 0) (norm v1 v2) (dot u1 u2 v1 v2) w1 u1 v1 ≡ v2 ⊗ cross u1 u2 v1 v2 = simp products (omega (arith, linear, times_is (pos 0) w1, times_is w1 (pos 0))) in
    f ∙ ap (λ x. v2 ⊗ x) e ∙ omega (arith, linear, times_is v2 (pos 0))

pub parallel-y : (w2 u1 u2 v1 v2 : ℤ) → cross u1 u2 v1 v2 ≡ pos 0 → gap (pos 0) (norm v1 v2) (dot u1 u2 v1 v2) w2 u2 v2 ≡ pos 0
parallel-y w2 u1 u2 v1 v2 e =
    let f : gap (pos 0) (norm v1 v2) (dot u1 u2 v1 v2) w2 u2 v2 ≡ ⊖ v1 ⊗ cross u1 u2 v1 v2 = simp products (omega (arith, linear, times_is (pos 0) w2, times_is w2 (pos 0))) in
    f ∙ ap (λ x. ⊖ v1 ⊗ x) e ∙ omega (arith, linear, times_is (⊖ v1) (pos 0))

pub square_zero : (a : ℤ) → a ⊗ a ≤ℤ pos 0 → a ≡ pos 0
square_zero a h = by_lt_z a (pos 0)
    (λ neg.
    let b : pos 0 <ℤ ⊖ a = omega (arith, linear) in
    let f = positive-times (⊖ a) (⊖ a) b b in
    let e : ⊖ a ⊗ ⊖ a ≡ a ⊗ a = simp products (omega (arith, linear)) in
    absurd (omega (arith, linear)))
    (λ le. by_lt_z (pos 0) a
    (λ more. let f = positive-times a a more more in absurd (omega (arith, linear)))
    (λ le2. omega (arith, linear)))

pub still : (w u v : ℤ) → v ≡ pos 0 → gap (pos 0) (pos 0) (pos 1) w u v ≡ pos 0
still w u v e = omega (arith, linear, times_is (pos 0) w, times_is (pos 0) u, times_is (pos 1) v)
