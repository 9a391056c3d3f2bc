-- Rising clients, and which they are.
use Rattle.std.proofs.Common.{◌≡◌, ℕ, zero, suc, ◌+◌, ◌<◌, ◌≤◌, List, [], ◌∷◌, get_or, refl, ap, subst, ◌∙◌, arith, Bool, true, false}
use Rattle.std.specs.Prelude.{nat_lt, ◌==◌, ◌||◌}
use Rattle.std.specs.List.Sorted.{IsStrictlyIncreasing}
use Rattle.std.proofs.lemmas.Bool.{eq-eqb, ne_eqb, lt-ltb, le-ltb}
use Rattle.number_slots.specs.Slots.{is_among}
use Rattle.number_slots.proofs.ByNumber.{by_lt}
use Rattle.boundaries.specs.Boundaries.{with_client, with_clients}

-- the clients rise, from this one on at least
abbrev RisesFrom : ℕ → List ℕ → Type 0
RisesFrom n [] = Unit {0}
RisesFrom n (c ∷ rest) = (n ≤ c) × RisesFrom (c + 1) rest

rises_with : (c n : ℕ) (xs : List ℕ) → n ≤ c → RisesFrom n xs → RisesFrom n (with_client c xs)
rises_with c n [] le r = (le, tt)
rises_with c n (d ∷ xs) le r =
    by_lt c d (RisesFrom n (with_client c (d ∷ xs)))
    (λ low. let e : nat_lt c d ≡ true = lt-ltb c d low in rw e (le, (omega (arith, low), r.1)))
    (λ past. let e : nat_lt c d ≡ false = le-ltb c d past in by_lt d c (RisesFrom n (with_client c (d ∷ xs)))
    (λ high. let f : (c == d) ≡ false = ne_eqb c d (λ q. absurd (omega arith)) in rw (e, f) (r.0, rises_with c (d + 1) xs (omega arith) r.1))
    (λ same. let f : (c == d) ≡ true = eq-eqb c d (omega arith) in rw (e, f) r))

rises_with_all : (clients : List ℕ) (xs : List ℕ) → RisesFrom 0 xs → RisesFrom 0 (with_clients clients xs)
rises_with_all [] xs r = r
rises_with_all (c ∷ rest) xs r = rises_with_all rest (with_client c xs) (rises_with c 0 xs (omega arith) r)

increasing : (n : ℕ) (xs : List ℕ) → RisesFrom n xs → IsStrictlyIncreasing xs
increasing n [] r k lt = absurd (omega arith)
increasing n (c ∷ []) r k lt = absurd (omega arith)
increasing n (c ∷ d ∷ xs) r zero lt = omega (arith, r.1.0)
increasing n (c ∷ d ∷ xs) r (suc k) lt =
    let e : suc (k + 1) ≡ suc k + 1 = omega arith in
    subst (λ (m : ℕ). get_or (c ∷ d ∷ xs) (suc k) 0 < get_or (c ∷ d ∷ xs) m 0) e (increasing (c + 1) (d ∷ xs) r.1 k (omega arith))

pub clients_rise : (clients : List ℕ) → IsStrictlyIncreasing (with_clients clients [])
clients_rise clients = increasing 0 (with_clients clients []) (rises_with_all clients [] tt)

or_swap : (a b r : Bool) → (a || (b || r)) ≡ (b || (a || r))
or_swap true true r = refl
or_swap true false r = refl
or_swap false true r = refl
or_swap false false r = refl

or_twice : (a b r : Bool) → a ≡ b → (a || r) ≡ (b || (a || r))
or_twice true true r e = refl
or_twice true false r e = absurd (cc)
or_twice false true r e = absurd (cc)
or_twice false false r e = refl

-- one client more is one of them
with_among : (c x : ℕ) (xs : List ℕ) → is_among x (with_client c xs) ≡ ((c == x) || is_among x xs)
with_among c x [] = refl
with_among c x (d ∷ xs) =
    by_lt c d (is_among x (with_client c (d ∷ xs)) ≡ ((c == x) || is_among x (d ∷ xs)))
    (λ low. let e : nat_lt c d ≡ true = lt-ltb c d low in rw e refl)
    (λ past. let e : nat_lt c d ≡ false = le-ltb c d past in by_lt d c (is_among x (with_client c (d ∷ xs)) ≡ ((c == x) || is_among x (d ∷ xs)))
    (λ high. let f : (c == d) ≡ false = ne_eqb c d (λ q. absurd (omega arith)) in rw (e, f) (ap (λ (r : Bool). (d == x) || r) (with_among c x xs) ∙ or_swap (d == x) (c == x) (is_among x xs)))
    (λ low. let f : (c == d) ≡ true = eq-eqb c d (omega arith) in let same : d ≡ c = omega arith in rw (e, f) (or_twice (d == x) (c == x) (is_among x xs) (ap (λ (k : ℕ). k == x) same))))

or_shift : (a b r : Bool) → (r || (a || b)) ≡ ((a || r) || b)
or_shift true b true = refl
or_shift true b false = refl
or_shift false b true = refl
or_shift false b false = refl

with_all_among : (clients xs : List ℕ) (x : ℕ) → is_among x (with_clients clients xs) ≡ (is_among x clients || is_among x xs)
with_all_among [] xs x = refl
with_all_among (c ∷ rest) xs x =
    with_all_among rest (with_client c xs) x ∙ ap (λ (r : Bool). is_among x rest || r) (with_among c x xs) ∙ or_shift (c == x) (is_among x xs) (is_among x rest)

or_none : (a : Bool) → (a || false) ≡ a
or_none true = refl
or_none false = refl

pub clients_same : (clients : List ℕ) (x : ℕ) → is_among x (with_clients clients []) ≡ is_among x clients
clients_same clients x = with_all_among clients [] x ∙ or_none (is_among x clients)
