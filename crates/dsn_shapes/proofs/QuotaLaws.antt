-- There is room for an item exactly where it takes its part, and shapes take as much quota as they have points.
use Rattle.std.proofs.Common.{◌≡◌, ℕ, zero, suc, ◌+◌, ◌-◌, ◌≤◌, ◌<◌, nat_lt, Bool, true, false, cond, List, [], ◌∷◌, length, Option, Some, None, refl, sym, ap, subst, ◌∙◌, arith, inl, inr}
use Rattle.std.specs.Prelude.{◌==◌}
use Rattle.std.proofs.lemmas.List.Sums.{sum_by-cons}
use Rattle.std.proofs.lemmas.Bool.{ltb-true, ltb-false, le-ltb, lt-ltb, eqb-true, eqb-false}
use Rattle.std.proofs.Math.Dec.{eqb-suc-zero}
use Rattle.area_geometry.specs.declared.shapes.Shape.{Shape}
use Rattle.area_geometry.specs.Copper.{core_points}
use Rattle.dsn_shapes.specs.declared.quotas.Quota.{Quota}
use Rattle.dsn_shapes.specs.Quotas.{less, less_all, item_less, quota_for, quota_behind}
use Rattle.dsn_shapes.specs.QuotaLists.{points_of_shapes, IsTaken, NoQuota}

-- ---- the points of shapes

less_none : (ss : List Shape) → less_all None ss ≡ None
unfolding less_all
less_none [] = refl
less_none (s ∷ ss) = less_none ss

less_on : (left n : ℕ) → left < n → less left n ≡ None
less_on left n low = rw (lt-ltb left n low) refl

less_off : (left n : ℕ) → n ≤ left → less left n ≡ Some (left - n)
less_off left n high = rw (le-ltb left n high) refl

less_more : (left n m : ℕ) → n ≤ left → less (left - n) m ≡ less left (n + m)
less_more left n m high = by (nat_lt (left - n) m) refl
  where
    by : (b : Bool) → nat_lt (left - n) m ≡ b → less (left - n) m ≡ less left (n + m)
    by true is =
        let low = ltb-true (left - n) m is in
        less_on (left - n) m low ∙ sym (less_on left (n + m) (omega (arith, high, low)))
    by false is =
        let low = ltb-false (left - n) m is in
        less_off (left - n) m low ∙ ap (λ (k : ℕ). Some k) (let same : (left - n) - m ≡ left - (n + m) = omega (arith, high, low) in same) ∙ sym (less_off left (n + m) (omega (arith, high, low)))

pub less_is : (ss : List Shape) (left : ℕ) → less_all (Some left) ss ≡ less left (points_of_shapes ss)
unfolding less_all
less_is [] left = sym (less_off left 0 (omega arith) ∙ ap (λ (k : ℕ). Some k) (let same : left - 0 ≡ left = omega arith in same))
less_is (s ∷ ss) left = by (nat_lt left (length (core_points s.core))) refl (less_is ss (left - length (core_points s.core)))
  where
    sum : points_of_shapes (s ∷ ss) ≡ length (core_points s.core) + points_of_shapes ss
    sum = sum_by-cons (λ (s : Shape). length (core_points s.core)) s ss

    by : (b : Bool) → nat_lt left (length (core_points s.core)) ≡ b → less_all (Some (left - length (core_points s.core))) ss ≡ less (left - length (core_points s.core)) (points_of_shapes ss)
        → less_all (less left (length (core_points s.core))) ss ≡ less left (points_of_shapes (s ∷ ss))
    by true is rest =
        let low = ltb-true left (length (core_points s.core)) is in
        ap (λ (o : Option ℕ). less_all o ss) (less_on left (length (core_points s.core)) low) ∙ less_none ss ∙ sym (ap (λ (n : ℕ). less left n) sum ∙ less_on left (length (core_points s.core) + points_of_shapes ss) (omega (arith, low)))
    by false is rest =
        let high = ltb-false left (length (core_points s.core)) is in
        ap (λ (o : Option ℕ). less_all o ss) (less_off left (length (core_points s.core)) high) ∙ rest ∙ less_more left (length (core_points s.core)) (points_of_shapes ss) high ∙ sym (ap (λ (n : ℕ). less left n) sum)

-- the quota behind an item of shapes is that behind an item of their points
pub quota_behind_is : (quota : Quota) (ss : List Shape) → quota_behind quota ss ≡ quota_for quota (points_of_shapes ss)
unfolding quota_behind quota_for
quota_behind_is quota ss = ap (λ (o : Option ℕ). item_less quota o) (less_is ss quota.points)

-- ---- the quota for an item

suc_of : (n : ℕ) → (n ≡ 0 → ⊥) → n ≡ suc (n - 1)
suc_of zero h = absurd (h refl)
suc_of (suc n) h = omega arith

some_is : (a b : Quota) → Some a ≡ Some b → a ≡ b
some_is a b e = cc

-- one item less, and so many points left
abbrev one_less : Quota → ℕ → Quota
one_less quota points = record { items = quota.items - 1; points = points }

abbrev item_taken : Quota → ℕ → Bool → Option Quota
item_taken quota points none = cond none None (Some (one_less quota points))

abbrev points_taken : Quota → ℕ → Bool → Option Quota
points_taken quota n short = item_less quota (cond short None (Some (quota.points - n)))

pub quota_found : (quota left : Quota) (n : ℕ) → quota_for quota n ≡ Some left → IsTaken quota n left
unfolding quota_for
quota_found quota left n e = by_points (nat_lt quota.points n) refl e
  where
    by_items : (b : Bool) → (quota.items == 0) ≡ b → n ≤ quota.points → item_taken quota (quota.points - n) b ≡ Some left → IsTaken quota n left
    by_items true is high e = absurd cc
    by_items false is high e =
        let some = eqb-false quota.items 0 is in
        subst (λ (r : Quota). IsTaken quota n r) (some_is (one_less quota (quota.points - n)) left e)
        (record { items = suc_of quota.items some; points = omega (arith, high) })

    by_points : (b : Bool) → nat_lt quota.points n ≡ b → points_taken quota n b ≡ Some left → IsTaken quota n left
    by_points true is e = absurd cc
    by_points false is e = by_items (quota.items == 0) refl (ltb-false quota.points n is) e

pub quota_again : (quota left : Quota) (n : ℕ) → IsTaken quota n left → quota_for quota n ≡ Some left
unfolding quota_for
quota_again quota left n h =
    let items = h.items in
    let points = h.points in
    let enough : nat_lt quota.points n ≡ false = le-ltb quota.points n (omega (arith, points)) in
    let some : (quota.items == 0) ≡ false = ap (λ (k : ℕ). k == 0) items ∙ eqb-suc-zero left.items in
    let one : quota.items - 1 ≡ left.items = omega (arith, items) in
    let more : quota.points - n ≡ left.points = omega (arith, points) in
    ap (points_taken quota n) enough ∙ ap (item_taken quota (quota.points - n)) some ∙ ap (λ (r : Quota). Some r) (λ i. record { items = one i; points = more i })

pub quota_fault : (quota : Quota) (n : ℕ) → quota_for quota n ≡ None → NoQuota quota n
unfolding quota_for
quota_fault quota n e = by_points (nat_lt quota.points n) refl e
  where
    by_items : (b : Bool) → (quota.items == 0) ≡ b → item_taken quota (quota.points - n) b ≡ None → NoQuota quota n
    by_items true is e = inl (eqb-true quota.items 0 is)
    by_items false is e = absurd cc

    by_points : (b : Bool) → nat_lt quota.points n ≡ b → points_taken quota n b ≡ None → NoQuota quota n
    by_points true is e = inr (ltb-true quota.points n is)
    by_points false is e = by_items (quota.items == 0) refl e

pub quota_fault_again : (quota : Quota) (n : ℕ) → NoQuota quota n → quota_for quota n ≡ None
unfolding quota_for
quota_fault_again quota n h = by_points (nat_lt quota.points n) refl h
  where
    by_points : (b : Bool) → nat_lt quota.points n ≡ b → NoQuota quota n → points_taken quota n b ≡ None
    by_points true is h = refl
    by_points false is (inl none) = ap (λ (k : ℕ). item_taken quota (quota.points - n) (k == 0)) none
    by_points false is (inr short) = let enough = ltb-false quota.points n is in absurd (omega (arith, short, enough))
