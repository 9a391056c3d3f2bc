-- Places and their index after pairs were taken away.
use Rattle.std.proofs.Common.{◌≡◌, ℕ, zero, suc, ◌+◌, List, [], ◌∷◌, length, refl, sym, ap, subst, ◌∙◌, arith, true, false}
use Rattle.std.proofs.Math.ListN.{set}
use Rattle.std.specs.Prelude.{Option, Some, None, ◌==◌}
use Rattle.std.specs.List.{filter}
use Rattle.std.proofs.lemmas.Bool.{eq-eqb, ne_eqb}
use Rattle.number_slots.proofs.ByNumber.{by_bool, there_true, all_stay}
use Rattle.reservations.specs.Held.{is_held, released, not_of, AreHeldOnce}
use Rattle.reservations.specs.Places.{pairs_of, pair_of, is_others, StandsAt, IsIndex}
use Rattle.reservations.proofs.Placed.{pair_is_at, index_once}
use Rattle.reservations.proofs.Put.{IsUpdate}

pair_unset : (xs : List (Option (ℕ × ℕ))) (i j : ℕ) (p : ℕ × ℕ) → pair_of (set xs i None) j ≡ Some p → (pair_of xs j ≡ Some p) × (j ≡ i → ⊥)
pair_unset [] i j p e = let wrong : ◌≡◌ {A = Option (ℕ × ℕ)} None (Some p) = e in absurd (cc)
pair_unset (x ∷ xs) zero zero p e = let wrong : ◌≡◌ {A = Option (ℕ × ℕ)} None (Some p) = e in absurd (cc)
pair_unset (x ∷ xs) zero (suc j) p e = (e, (λ q. absurd (omega (arith, q))))
pair_unset (x ∷ xs) (suc i) zero p e = (e, (λ q. absurd (omega (arith, q))))
pair_unset (x ∷ xs) (suc i) (suc j) p e = let k = pair_unset xs i j p e in (k.0, (λ q. k.1 (omega (arith, q))))

pair_stays : (xs : List (Option (ℕ × ℕ))) (i j : ℕ) (p : ℕ × ℕ) → (j ≡ i → ⊥) → pair_of xs j ≡ Some p → pair_of (set xs i None) j ≡ Some p
pair_stays [] i j p other e = e
pair_stays (x ∷ xs) zero zero p other e = absurd (other refl)
pair_stays (x ∷ xs) zero (suc j) p other e = e
pair_stays (x ∷ xs) (suc i) zero p other e = e
pair_stays (x ∷ xs) (suc i) (suc j) p other e = pair_stays xs i j p (λ q. other (ap suc q)) e

less_right : (f g : ℕ → Option ℕ) (places : List (Option (ℕ × ℕ))) (id i q j : ℕ) → IsIndex f places → f id ≡ Some i → IsUpdate f g id None → g q ≡ Some j → StandsAt (set places i None) q j
less_right f g places id i q j index found up e = by_bool (id == q) (StandsAt (set places i None) q j)
    (λ t. let a : g q ≡ None = rw t at (up q) in absurd (cc))
    (λ n.
    let a : g q ≡ f q = rw n at (up q) in
    let s = index.right q j (sym a ∙ e) in
    let r = index.right id i found in
    let other : j ≡ i → ⊥ = λ same.
    let h : pair_of places i ≡ Some (q, s.0) = subst (λ (m : ℕ). pair_of places m ≡ Some (q, s.0)) same s.1 in
    let k = r.1 in
    let pair : ◌≡◌ {A = ℕ × ℕ} (id, r.0) (q, s.0) = cc in
    let t : (id == q) ≡ true = eq-eqb id q (ap (λ p. p.0) pair) in
    absurd (cc) in
    (s.0, pair_stays places i j (q, s.0) other s.1))

less_whole : (f g : ℕ → Option ℕ) (places : List (Option (ℕ × ℕ))) (id i q c j : ℕ) → IsIndex f places → f id ≡ Some i → IsUpdate f g id None → pair_of (set places i None) j ≡ Some (q, c) → g q ≡ Some j
less_whole f g places id i q c j index found up e =
    let k = pair_unset places i j (q, c) e in
    let a : f q ≡ Some j = index.whole q c j k.0 in
    let other : (id == q) ≡ false = ne_eqb id q (λ same.
    let b : f q ≡ Some i = subst (λ (n : ℕ). f n ≡ Some i) same found in
    let wrong : j ≡ i = cc in
    absurd (k.1 wrong)) in
    let b : g q ≡ f q = rw other at (up q) in
    b ∙ a

-- the index after the pair of an item was taken away
pub index_less : (f g : ℕ → Option ℕ) (places : List (Option (ℕ × ℕ))) (id i : ℕ) → IsIndex f places → f id ≡ Some i → IsUpdate f g id None → IsIndex g (set places i None)
index_less f g places id i index found up = record {
  right = λ q j e. less_right f g places id i q j index found up e;
  whole = λ q c j e. less_whole f g places id i q c j index found up e;
}

-- a free item has no pair to be released
pub free_stays : (id : ℕ) (xs : List (ℕ × ℕ)) → is_held id xs ≡ false → released id xs ≡ xs
free_stays id xs free = all_stay id xs (λ m c h same.
    let held : is_held m xs ≡ true = there_true xs m c h in
    let other : is_held m xs ≡ false = subst (λ (n : ℕ). is_held n xs ≡ false) same free in
    absurd (cc))

pairs_unset : (places : List (Option (ℕ × ℕ))) (i id c : ℕ) → AreHeldOnce (pairs_of places) → pair_of places i ≡ Some (id, c) → pairs_of (set places i None) ≡ released id (pairs_of places)
pairs_unset [] i id c once e = let wrong : ◌≡◌ {A = Option (ℕ × ℕ)} None (Some (id, c)) = e in absurd (cc)
pairs_unset (None ∷ rest) zero id c once e = let wrong : ◌≡◌ {A = Option (ℕ × ℕ)} None (Some (id, c)) = e in absurd (cc)
pairs_unset (Some p ∷ rest) zero id c once e =
    let f : Some p ≡ Some (id, c) = e in
    let same : p ≡ (id, c) = cc in
    let item : p.0 ≡ id = ap (λ q. q.0) same in
    let t : (id == p.0) ≡ true = eq-eqb id p.0 (sym item) in
    let free : is_held id (pairs_of rest) ≡ false = subst (λ (n : ℕ). is_held n (pairs_of rest) ≡ false) item once.0 in
    rw t (sym (free_stays id (pairs_of rest) free))
pairs_unset (None ∷ rest) (suc i) id c once e = pairs_unset rest i id c once e
pairs_unset (Some p ∷ rest) (suc i) id c once e =
    let other : (id == p.0) ≡ false = ne_eqb id p.0 (λ same.
    let held : is_held id (pairs_of rest) ≡ true = there_true (pairs_of rest) id c (pair_is_at rest i id c e) in
    let free : is_held id (pairs_of rest) ≡ false = subst (λ (n : ℕ). is_held n (pairs_of rest) ≡ false) (sym same) once.0 in
    absurd (cc)) in
    rw other (ap (λ zs. p ∷ zs) (pairs_unset rest i id c once.1 e))

-- what is left of the pairs as the one at an item's place is taken away
pub pairs_less : (f : ℕ → Option ℕ) (places : List (Option (ℕ × ℕ))) (id i : ℕ) → IsIndex f places → f id ≡ Some i → pairs_of (set places i None) ≡ released id (pairs_of places)
pairs_less f places id i index found = let s = index.right id i found in pairs_unset places i id s.0 (index_once f places index) s.1

-- a held item is counted
pub held_count : (f : ℕ → Option ℕ) (places : List (Option (ℕ × ℕ))) (id i : ℕ) → IsIndex f places → f id ≡ Some i → length (released id (pairs_of places)) + 1 ≡ length (pairs_of places)
held_count f places id i index found = let s = index.right id i found in ap (λ ys. length ys + 1) (sym (pairs_less f places id i index found)) ∙ one_less places i id s.0 s.1
  where
    one_less : (places : List (Option (ℕ × ℕ))) (i id c : ℕ) → pair_of places i ≡ Some (id, c) → length (pairs_of (set places i None)) + 1 ≡ length (pairs_of places)
    one_less [] i id c e = let wrong : ◌≡◌ {A = Option (ℕ × ℕ)} None (Some (id, c)) = e in absurd (cc)
    one_less (None ∷ rest) zero id c e = let wrong : ◌≡◌ {A = Option (ℕ × ℕ)} None (Some (id, c)) = e in absurd (cc)
    one_less (Some p ∷ rest) zero id c e = omega arith
    one_less (None ∷ rest) (suc i) id c e = one_less rest i id c e
    one_less (Some p ∷ rest) (suc i) id c e = let k = one_less rest i id c e in omega (arith, k)

-- the places of the others have the pairs that aren't the client's
pub pairs_others : (client : ℕ) (places : List (Option (ℕ × ℕ))) → pairs_of (filter (is_others client) places) ≡ not_of client (pairs_of places)
pairs_others client [] = refl
pairs_others client (None ∷ rest) = pairs_others client rest
pairs_others client (Some p ∷ rest) = by_bool (p.1 == client) (pairs_of (filter (is_others client) (Some p ∷ rest)) ≡ not_of client (pairs_of (Some p ∷ rest)))
    (λ t. rw t (pairs_others client rest))
    (λ n. rw n (ap (λ zs. p ∷ zs) (pairs_others client rest)))
