-- Sums over things by their number.
use Rattle.std.proofs.Common.{◌≡◌, ℕ, ◌+◌, ◌<◌, ◌≤◌, List, [], ◌∷◌, refl, ap, arith, inl, inr, true, false}
use Rattle.std.specs.Prelude.{nat_le, nat_lt, ◌&&◌, if◌then◌else◌}
use Rattle.std.proofs.lemmas.Bool.{le-leb, lt-leb, lt-ltb, le-ltb}
use Rattle.number_slots.specs.Slots.{IsAt}
use Rattle.number_slots.specs.Sums.{sum_between, sum_of}
use Rattle.number_slots.proofs.ByNumber.{by_bool, by_lt}

-- what a number gives between two bounds
abbrev term : ℕ → ℕ → ℕ → ℕ → ℕ
term n m k a = if nat_le n k && nat_lt k m then a else 0

term_in : (n m k a : ℕ) → n ≤ k → k < m → term n m k a ≡ a
term_in n m k a le lt = let e : nat_le n k ≡ true = le-leb n k le in let f : nat_lt k m ≡ true = lt-ltb k m lt in rw (e, f) refl

term_low : (n m k a : ℕ) → k < n → term n m k a ≡ 0
term_low n m k a lt = let e : nat_le n k ≡ false = lt-leb n k lt in rw e refl

term_high : (n m k a : ℕ) → m ≤ k → term n m k a ≡ 0
term_high n m k a le = let f : nat_lt k m ≡ false = le-ltb k m le in by_bool (nat_le n k) (term n m k a ≡ 0) (λ t. rw (t, f) refl) (λ g. rw g refl)

-- a term up to m and one for m alone are a term up to m + 1
term_join : (n m k a : ℕ) → n ≤ m → term n m k a + term m (m + 1) k a ≡ term n (m + 1) k a
term_join n m k a le =
    by_lt k n (term n m k a + term m (m + 1) k a ≡ term n (m + 1) k a)
    (λ low. let x = term_low n m k a low in let y = term_low m (m + 1) k a (omega arith) in let z = term_low n (m + 1) k a low in omega (arith, x, y, z))
    (λ from. by_lt k m (term n m k a + term m (m + 1) k a ≡ term n (m + 1) k a)
    (λ lt. let x = term_in n m k a from lt in let y = term_low m (m + 1) k a lt in let z = term_in n (m + 1) k a from (omega arith) in omega (arith, x, y, z))
    (λ past. by_lt m k (term n m k a + term m (m + 1) k a ≡ term n (m + 1) k a)
    (λ gt. let x = term_high n m k a past in let y = term_high m (m + 1) k a (omega arith) in let z = term_high n (m + 1) k a (omega arith) in omega (arith, x, y, z))
    (λ same. let x = term_high n m k a past in let y = term_in m (m + 1) k a past (omega arith) in let z = term_in n (m + 1) k a from (omega arith) in omega (arith, x, y, z))))

term_most : (n m k a : ℕ) → term n m k a ≤ a
term_most n m k a =
    by_lt k n (term n m k a ≤ a)
    (λ low. let x = term_low n m k a low in omega (arith, x))
    (λ from. by_lt k m (term n m k a ≤ a)
    (λ lt. let x = term_in n m k a from lt in omega (arith, x))
    (λ past. let x = term_high n m k a past in omega (arith, x)))

-- a sum up to m, and what stands at m, are a sum up to m + 1
pub sum_on : {T : Type 0} (w : T → ℕ) (n m : ℕ) (xs : List (ℕ × T)) → n ≤ m → sum_between w n m xs + sum_between w m (m + 1) xs ≡ sum_between w n (m + 1) xs
sum_on w n m [] le = omega arith
sum_on w n m (x ∷ xs) le = let one = term_join n m x.0 (w x.1) le in let more = sum_on w n m xs le in omega (arith, one, more)

-- a sum between two numbers is at most that over all
pub sum_most : {T : Type 0} (w : T → ℕ) (n m : ℕ) (xs : List (ℕ × T)) → sum_between w n m xs ≤ sum_of w xs
sum_most w n m [] = omega arith
sum_most w n m (x ∷ xs) = let one = term_most n m x.0 (w x.1) in let more = sum_most w n m xs in omega (arith, one, more)

-- what stands at a number takes part
pub sum_at : {T : Type 0} (w : T → ℕ) (m : ℕ) (xs : List (ℕ × T)) (x : T) → IsAt xs m x → w x ≤ sum_between w m (m + 1) xs
sum_at w m [] x h = absurd h
sum_at w m (y ∷ ys) x (inl h) =
    let one : term m (m + 1) y.0 (w y.1) ≡ w y.1 = term_in m (m + 1) y.0 (w y.1) (omega (arith, h.0)) (omega (arith, h.0)) in
    let same : w y.1 ≡ w x = ap w h.1 in omega (arith, one, same)
sum_at w m (y ∷ ys) x (inr h) = let more = sum_at w m ys x h in omega (arith, more)
