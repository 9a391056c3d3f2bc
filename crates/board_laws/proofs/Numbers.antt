-- What stands under a number of a list, after a filter.
use Rattle.std.proofs.Common.{◌≡◌, ℕ, ◌+◌, ◌<◌, List, [], ◌∷◌, length, refl, sym, subst, arith, inl, inr, Bool, true, false}
use Rattle.std.specs.Prelude.{not}
use Rattle.std.specs.List.{filter}
use Rattle.std.proofs.lemmas.Bool.{not-true}
use Rattle.number_slots.specs.Slots.{is_among, without, IsAt, numbered}

pair_is : {T : Type 0} (y : ℕ × T) (m : ℕ) (x : T) → y.0 ≡ m → y.1 ≡ x → y ≡ (m, x)
pair_is y m x e f = λ i. (e i, f i)

within_one : {T : Type 0} (test : ℕ × T → Bool) (y : ℕ × T) (ys : List (ℕ × T)) (m : ℕ) (x : T) (b : Bool) → test y ≡ b → (IsAt (filter test ys) m x → IsAt ys m x × (test (m, x) ≡ true)) → IsAt (filter test (y ∷ ys)) m x
    → IsAt (y ∷ ys) m x × (test (m, x) ≡ true)
within_one test y ys m x true e more h = elim (rw e at h) [ inl f ↦ (inl f, subst (λ z. test z ≡ true) (pair_is y m x f.0 f.1) e) | inr f ↦ (inr (more f).0, (more f).1) ]
within_one test y ys m x false e more h = let f = more (rw e at h) in (inr f.0, f.1)

-- what passed a test stood there before, and passes it
pub within_filter : {T : Type 0} (test : ℕ × T → Bool) (xs : List (ℕ × T)) (m : ℕ) (x : T) → IsAt (filter test xs) m x → IsAt xs m x × (test (m, x) ≡ true)
within_filter test [] m x h = absurd h
within_filter test (y ∷ ys) m x h = within_one test y ys m x (test y) refl (within_filter test ys m x) h

left_one : {T : Type 0} (test : ℕ × T → Bool) (y : ℕ × T) (ys : List (ℕ × T)) (m : ℕ) (x : T) (b : Bool) → test y ≡ b → test (m, x) ≡ true → (IsAt ys m x → IsAt (filter test ys) m x) → IsAt (y ∷ ys) m x → IsAt (filter test (y ∷ ys)) m x
left_one test y ys m x true e passes more (inl h) = rw e (inl h)
left_one test y ys m x true e passes more (inr h) = rw e (inr (more h))
left_one test y ys m x false e passes more (inl h) = let same : test y ≡ true = subst (λ z. test z ≡ true) (sym (pair_is y m x h.0 h.1)) passes in absurd cc
left_one test y ys m x false e passes more (inr h) = rw e (more h)

-- what passes a test is left
pub left_by_filter : {T : Type 0} (test : ℕ × T → Bool) (xs : List (ℕ × T)) (m : ℕ) (x : T) → test (m, x) ≡ true → IsAt xs m x → IsAt (filter test xs) m x
left_by_filter test [] m x passes h = h
left_by_filter test (y ∷ ys) m x passes h = left_one test y ys m x (test y) refl passes (left_by_filter test ys m x passes) h

-- what is left without some numbers has none of them
pub not_among : {T : Type 0} (ids : List ℕ) (xs : List (ℕ × T)) (m : ℕ) (x : T) → IsAt (without ids xs) m x → is_among m ids ≡ false
not_among ids xs m x h = not-true (is_among m ids) (within_filter (λ y. not (is_among y.0 ids)) xs m x h).1

-- numbered things lie below the number behind them
pub numbered_below : {T : Type 0} (n : ℕ) (xs : List T) (m : ℕ) (x : T) → IsAt (numbered n xs) m x → m < n + length xs
numbered_below n [] m x h = absurd h
numbered_below n (y ∷ ys) m x (inl h) = omega (arith, h.0)
numbered_below n (y ∷ ys) m x (inr h) = let lt = numbered_below (n + 1) ys m x h in omega (arith, lt)
