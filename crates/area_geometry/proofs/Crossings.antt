-- Which edges count, by the side on which the point lies of them.
use Rattle.std.proofs.Common.{◌≡◌, ℕ, zero, suc, ◌+◌, ◌%◌, min, List, take, Bool, true, false, ◌&&◌, arith, refl, sym, ap, ◌∙◌, eq-eqb}
use Rattle.std.specs.Prelude.{◌↔◌, IsTrue, nat_eq, Some, slice_get, ℤ, pos, negsuc, ◌-ℤ◌, ◌<ℤ◌}
use Rattle.std.specs.Int.{int_signum}
use Rattle.std.specs.Ordering.{int_eq}
use Rattle.std.specs.List.{count_by}
use Rattle.std.proofs.Math.Bool.{xor}
use Rattle.std.proofs.lemmas.Option.{slice_get_within, get_or_from_slice_get}
use Rattle.std.proofs.lemmas.List.Sums.{count_by_more_yes, count_by_more_no}
use Rattle.std.proofs.lemmas.Bool.Decides.{nat_tests}
use Rattle.std.proofs.lemmas.Int.{ints}
use lib.Signed.{lt_z}
use Rattle.seg_geometry.specs.declared.points.Pt.{Pt}
use Rattle.seg_geometry.specs.declared.points.Seg.{Seg}
use Rattle.seg_geometry.specs.Points.{turn_of}
use Rattle.seg_geometry.proofs.Ring.{◌⊕◌, ◌⊗◌, ⊖, linear, products}
use Rattle.area_geometry.specs.Rings.{lead, counts}

-- r is the sign of x
pub record IsSign (r x : ℤ) : Type 0 where
  pub left : (r ≡ pos 1) ↔ (pos 0 <ℤ x)
  pub right : (r ≡ negsuc 0) ↔ (x <ℤ pos 0)
  pub straight : (r ≡ pos 0) ↔ (x ≡ pos 0)

below_zero : (r x : ℤ) → IsSign r x → lt_z r (pos 0) ≡ int_eq (int_signum x) (negsuc 0)
below_zero r (pos zero) s = ap (λ (z : ℤ). lt_z z (pos 0)) (s.straight.1 refl)
below_zero r (pos (suc n)) s = ap (λ (z : ℤ). lt_z z (pos 0)) (s.left.1 (omega (arith, ints)))
below_zero r (negsuc n) s = ap (λ (z : ℤ). lt_z z (pos 0)) (s.right.1 (omega (arith, ints)))

above_zero : (r x : ℤ) → IsSign r x → lt_z (pos 0) r ≡ int_eq (int_signum x) (pos 1)
above_zero r (pos zero) s = ap (λ (z : ℤ). lt_z (pos 0) z) (s.straight.1 refl)
above_zero r (pos (suc n)) s =
    let one : 1 ≡ min (suc n) 1 = omega arith in
    ap (λ (z : ℤ). lt_z (pos 0) z) (s.left.1 (omega (arith, ints))) ∙ ap (λ m. int_eq (pos m) (pos 1)) one
above_zero r (negsuc n) s = ap (λ (z : ℤ). lt_z (pos 0) z) (s.right.1 (omega (arith, ints)))

pub signum_below : (x : ℤ) → x <ℤ pos 0 → int_signum x ≡ negsuc 0
signum_below (pos n) h = absurd (omega (arith, ints))
signum_below (negsuc n) h = refl

pub signum_above : (x : ℤ) → pos 0 <ℤ x → int_signum x ≡ pos 1
signum_above (pos n) h = let one : min n 1 ≡ 1 = omega (arith, ints) in ap pos one
signum_above (negsuc n) h = absurd (omega (arith, ints))

turned : (ax ay bx by vx vy : ℤ) → (bx ⊕ ⊖ ax) ⊗ (vy ⊕ ⊖ ay) ⊕ ⊖ ((by ⊕ ⊖ ay) ⊗ (vx ⊕ ⊖ ax)) ≡ (ax ⊕ ⊖ vx) ⊗ (by ⊕ ⊖ ay) ⊕ (vy ⊕ ⊖ ay) ⊗ (bx ⊕ ⊖ ax)
turned ax ay bx by vx vy = simp products (omega (arith, linear))

-- the lead of the edge is the turn from the edge to the point
lead_is : (v : Pt) (e : Seg) → turn_of e.a e.b v ≡ lead v e
unfolding ◌⊕◌ ◌⊗◌ ⊖
lead_is v e = turned e.a.x e.a.y e.b.x e.b.y v.x v.y

-- an edge that falls past v counts where v lies right of the way along it
pub counts-falling : (v : Pt) (e : Seg) (r : ℤ) → lt_z v.y e.a.y ≡ true → lt_z v.y e.b.y ≡ false → IsSign r (turn_of e.a e.b v) → lt_z r (pos 0) ≡ counts v e
unfolding counts xor
counts-falling v e r above below s =
    let fall : int_signum (e.b.y -ℤ e.a.y) ≡ negsuc 0 = signum_below (e.b.y -ℤ e.a.y) (omega (arith, ints)) in
    below_zero r (turn_of e.a e.b v) s ∙ (λ i. xor (sym above i) (sym below i) && int_eq (int_signum (lead_is v e i)) (sym fall i))

-- an edge that rises past v counts where v lies left of the way along it
pub counts-rising : (v : Pt) (e : Seg) (r : ℤ) → lt_z v.y e.a.y ≡ false → lt_z v.y e.b.y ≡ true → IsSign r (turn_of e.a e.b v) → lt_z (pos 0) r ≡ counts v e
unfolding counts xor
counts-rising v e r below above s =
    let rise : int_signum (e.b.y -ℤ e.a.y) ≡ pos 1 = signum_above (e.b.y -ℤ e.a.y) (omega (arith, ints)) in
    above_zero r (turn_of e.a e.b v) s ∙ (λ i. xor (sym below i) (sym above i) && int_eq (int_signum (lead_is v e i)) (sym rise i))

same_side : (b c : Bool) → false ≡ (xor b b && c)
unfolding xor
same_side true c = refl
same_side false c = refl

-- an edge with both ends on one side of the height of v doesn't count
pub counts-level : (v : Pt) (e : Seg) (b : Bool) → lt_z v.y e.a.y ≡ b → lt_z v.y e.b.y ≡ b → false ≡ counts v e
unfolding counts xor
counts-level v e b h k =
    same_side b _ ∙ (λ i. xor (sym h i) (sym k i) && int_eq (int_signum (lead v e)) (int_signum (e.b.y -ℤ e.a.y)))

-- ---- edges that are counted one by one

pub counted_more : {X : Type 0} (p : X → Bool) (xs : List X) (i : ℕ) (x : X) (n : ℕ) → slice_get xs i ≡ Some x → p x ≡ true
    → n ≡ count_by p (take i xs) → n + 1 ≡ count_by p (take (i + 1) xs)
counted_more p xs i x n e found h =
    ap (λ k. k + 1) h ∙ sym (count_by_more_yes p xs i x (slice_get_within xs i x e) (ap p (get_or_from_slice_get xs i x x e) ∙ found))

pub counted_same : {X : Type 0} (p : X → Bool) (xs : List X) (i : ℕ) (x : X) (n : ℕ) → slice_get xs i ≡ Some x → p x ≡ false
    → n ≡ count_by p (take i xs) → n ≡ count_by p (take (i + 1) xs)
counted_same p xs i x n e none h = h ∙ sym (count_by_more_no p xs i x (slice_get_within xs i x e) (ap p (get_or_from_slice_get xs i x x e) ∙ none))

pub odd_iff : (n m : ℕ) → n ≡ m → IsTrue (nat_eq (n % 2) 1) ↔ (m % 2 ≡ 1)
odd_iff n m e = (λ r. ap (λ k. k % 2) (sym e) ∙ grind (arith, nat_tests), λ h. eq-eqb (n % 2) 1 (ap (λ k. k % 2) e ∙ h))
