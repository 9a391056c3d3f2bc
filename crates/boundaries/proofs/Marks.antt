-- Clients as marks.
use Rattle.std.proofs.Common.{◌≡◌, ℕ, zero, suc, ◌+◌, ◌<◌, List, [], ◌∷◌, length, refl, sym, ap, ◌∙◌, arith, Bool, true, false, get_or}
use Rattle.std.proofs.Math.ListN.{set}
use Rattle.std.specs.Prelude.{nat_lt, ◌==◌}
use Rattle.std.proofs.lemmas.Bool.{eq-eqb, ne_eqb, lt-ltb, le-ltb}
use Rattle.number_slots.specs.Slots.{is_among}
use Rattle.boundaries.specs.Boundaries.{with_client}
use Rattle.boundaries.specs.Marks.{marked}

-- a client below the first place goes before all
first_of_marked : (m k : ℕ) (xs : List Bool) → m < k → with_client m (marked k xs) ≡ m ∷ marked k xs
first_of_marked m k [] lt = refl
first_of_marked m k (true ∷ xs) lt = let e : nat_lt m k ≡ true = lt-ltb m k lt in rw e refl
first_of_marked m k (false ∷ xs) lt = first_of_marked m (k + 1) xs (omega arith)

-- nor is it one of them
none_below : (m k : ℕ) (xs : List Bool) → m < k → is_among m (marked k xs) ≡ false
none_below m k [] lt = refl
none_below m k (true ∷ xs) lt =
    let e : (k == m) ≡ false = ne_eqb k m (λ q. absurd (omega arith)) in rw e (none_below m (k + 1) xs (omega arith))
none_below m k (false ∷ xs) lt = none_below m (k + 1) xs (omega arith)

-- one more mark is one more client
pub set_marked : (n i m : ℕ) (xs : List Bool) → m ≡ n + i → i < length xs → marked n (set xs i true) ≡ with_client m (marked n xs)
set_marked n i m [] is lt = absurd (omega arith)
set_marked n zero m (true ∷ xs) is lt =
    let e : nat_lt m n ≡ false = le-ltb m n (omega (arith, is)) in
    let f : (m == n) ≡ true = eq-eqb m n (omega (arith, is)) in rw (e, f) refl
set_marked n zero m (false ∷ xs) is lt =
    let same : m ≡ n = omega (arith, is) in
    ap (λ (k : ℕ). k ∷ marked (n + 1) xs) (sym same) ∙ sym (first_of_marked m (n + 1) xs (omega (arith, is)))
set_marked n (suc i) m (true ∷ xs) is lt =
    let e : nat_lt m n ≡ false = le-ltb m n (omega (arith, is)) in
    let f : (m == n) ≡ false = ne_eqb m n (λ q. absurd (omega (arith, is))) in
    rw (e, f) (ap (λ (ys : List ℕ). n ∷ ys) (set_marked (n + 1) i m xs (omega (arith, is)) (omega arith)))
set_marked n (suc i) m (false ∷ xs) is lt = set_marked (n + 1) i m xs (omega (arith, is)) (omega arith)

-- a mark tells whether the client is one of them
pub get_marked : (n i m : ℕ) (xs : List Bool) → m ≡ n + i → get_or xs i false ≡ is_among m (marked n xs)
get_marked n i m [] is = refl
get_marked n zero m (true ∷ xs) is = let f : (n == m) ≡ true = eq-eqb n m (omega (arith, is)) in rw f refl
get_marked n zero m (false ∷ xs) is = sym (none_below m (n + 1) xs (omega (arith, is)))
get_marked n (suc i) m (true ∷ xs) is =
    let f : (n == m) ≡ false = ne_eqb n m (λ q. absurd (omega (arith, is))) in rw f (get_marked (n + 1) i m xs (omega (arith, is)))
get_marked n (suc i) m (false ∷ xs) is = get_marked (n + 1) i m xs (omega (arith, is))
