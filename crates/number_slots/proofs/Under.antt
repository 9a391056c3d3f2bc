-- A walk over things by their number: those below the number that comes next.
use Rattle.std.proofs.Common.{◌≡◌, ℕ, ◌+◌, ◌<◌, ◌≤◌, List, [], ◌∷◌, ◌++◌, refl, ap, arith, inl, inr, true, false}
use Rattle.std.specs.Prelude.{nat_lt}
use Rattle.std.proofs.lemmas.Bool.{lt-ltb, le-ltb}
use Rattle.number_slots.specs.Slots.{IsAt, IsThere, IsRisingFrom, under}
use Rattle.number_slots.proofs.ByNumber.{at_least, by_lt}

-- of numbers that begin past the bound none lies below it
none_under : {T : Type 0} (n m : ℕ) (xs : List (ℕ × T)) → n ≤ m → IsRisingFrom m xs → under n xs ≡ []
none_under n m [] le r = refl
none_under n m (x ∷ xs) le r =
    let e : nat_lt x.0 n ≡ false = le-ltb x.0 n (omega (arith, r.0)) in
    rw e (none_under n (x.0 + 1) xs (omega (arith, r.0)) r.1)

-- a walk begins
pub under_first : {T : Type 0} (n : ℕ) (xs : List (ℕ × T)) → IsRisingFrom n xs → under n xs ≡ []
under_first n xs r = none_under n n xs (omega arith) r

-- nothing stands under the next number
pub under_none : {T : Type 0} (n : ℕ) (xs : List (ℕ × T)) → (IsThere xs n → ⊥) → under (n + 1) xs ≡ under n xs
under_none n [] none = refl
under_none n (x ∷ xs) none =
    let more = under_none n xs (λ t. none (t.0, inr t.1)) in
    by_lt x.0 n (under (n + 1) (x ∷ xs) ≡ under n (x ∷ xs))
    (λ low. let e : nat_lt x.0 n ≡ true = lt-ltb x.0 n low in let f : nat_lt x.0 (n + 1) ≡ true = lt-ltb x.0 (n + 1) (omega arith) in rw (e, f) (ap (λ ys. x ∷ ys) more))
    (λ past. by_lt n x.0 (under (n + 1) (x ∷ xs) ≡ under n (x ∷ xs))
    (λ high. let e : nat_lt x.0 n ≡ false = le-ltb x.0 n past in let f : nat_lt x.0 (n + 1) ≡ false = le-ltb x.0 (n + 1) (omega arith) in rw (e, f) more)
    (λ here. let same : x.0 ≡ n = omega arith in absurd (none (x.1, inl (same, refl)))))

-- something does
pub under_at : {T : Type 0} (k n : ℕ) (xs : List (ℕ × T)) (x : T) → IsRisingFrom k xs → IsAt xs n x → under (n + 1) xs ≡ under n xs ++ (n, x) ∷ []
under_at k n [] x r h = absurd h
under_at k n (y ∷ ys) x r (inl h) =
    let e : nat_lt y.0 n ≡ false = le-ltb y.0 n (omega (arith, h.0)) in
    let f : nat_lt y.0 (n + 1) ≡ true = lt-ltb y.0 (n + 1) (omega (arith, h.0)) in
    let a = none_under n (y.0 + 1) ys (omega (arith, h.0)) r.1 in
    let b = none_under (n + 1) (y.0 + 1) ys (omega (arith, h.0)) r.1 in
    rw (e, f) (rw (a, b) (λ i. (h.0 i, h.1 i) ∷ []))
under_at k n (y ∷ ys) x r (inr h) =
    let low = at_least (y.0 + 1) ys n x r.1 h in
    let e : nat_lt y.0 n ≡ true = lt-ltb y.0 n (omega arith) in
    let f : nat_lt y.0 (n + 1) ≡ true = lt-ltb y.0 (n + 1) (omega arith) in
    rw (e, f) (ap (λ zs. y ∷ zs) (under_at (y.0 + 1) n ys x r.1 h))

-- a walk ends
pub under_all : {T : Type 0} (n : ℕ) (xs : List (ℕ × T)) → ((m : ℕ) (x : T) → IsAt xs m x → m < n) → under n xs ≡ xs
under_all n [] within = refl
under_all n (x ∷ xs) within =
    let e : nat_lt x.0 n ≡ true = lt-ltb x.0 n (within x.0 x.1 (inl (refl, refl))) in
    rw e (ap (λ ys. x ∷ ys) (under_all n xs (λ m y h. within m y (inr h))))
