-- Places one after another.
use Rattle.std.proofs.Common.{◌≡◌, ℕ, zero, suc, ◌+◌, ◌<◌, ◌≤◌, List, [], ◌∷◌, ◌++◌, length, refl, sym, ap, subst, ◌∙◌, arith, take, get_or, true, false, length-append, append-nil}
use Rattle.std.specs.Prelude.{Option, Some, None, ◌==◌}
use Rattle.std.proofs.lemmas.Bool.{ne_eqb}
use Rattle.number_slots.proofs.ByNumber.{there_true}
use Rattle.reservations.specs.Held.{is_held, AreHeldOnce}
use Rattle.reservations.specs.Places.{pairs_of, pair_of}
use Rattle.reservations.proofs.Placed.{pair_is_at}
use Rattle.reservations.proofs.Put.{pairs_join}

-- what is read at a place
pub read_pair : (places : List (Option (ℕ × ℕ))) (i : ℕ) (d o : Option (ℕ × ℕ)) → i < length places → o ≡ get_or places i d → o ≡ pair_of places i
read_pair [] i d o lt e = absurd (omega arith)
read_pair (x ∷ rest) zero d o lt e = e
read_pair (x ∷ rest) (suc i) d o lt e = read_pair rest i d o (omega arith) e

pub past_pair : (places : List (Option (ℕ × ℕ))) (i : ℕ) → length places ≤ i → None ≡ pair_of places i
past_pair [] i le = refl
past_pair (x ∷ rest) zero le = absurd (omega arith)
past_pair (x ∷ rest) (suc i) le = past_pair rest i (omega arith)

take_suc : (places : List (Option (ℕ × ℕ))) (i : ℕ) (o : Option (ℕ × ℕ)) → i < length places → o ≡ pair_of places i → take (suc i) places ≡ take i places ++ o ∷ []
take_suc [] i o lt e = absurd (omega arith)
take_suc (x ∷ rest) zero o lt e = ap (λ y. y ∷ []) (sym e)
take_suc (x ∷ rest) (suc i) o lt e = ap (λ ys. x ∷ ys) (take_suc rest i o (omega arith) e)

-- the places so far, and the next one
pub take_on : (places : List (Option (ℕ × ℕ))) (i : ℕ) (o : Option (ℕ × ℕ)) → i < length places → o ≡ pair_of places i → take (i + 1) places ≡ take i places ++ o ∷ []
take_on places i o lt e = let next : i + 1 ≡ suc i = omega arith in ap (λ (n : ℕ). take n places) next ∙ take_suc places i o lt e

-- there are as many as the next one's place
pub take_length : (places : List (Option (ℕ × ℕ))) (i : ℕ) → i ≤ length places → length (take i places) ≡ i
take_length [] zero le = refl
take_length [] (suc i) le = absurd (omega arith)
take_length (x ∷ rest) zero le = refl
take_length (x ∷ rest) (suc i) le = let n = take_length rest i (omega arith) in omega (arith, n)

-- the pairs so far don't have the next one's item
pub free_so_far : (places : List (Option (ℕ × ℕ))) (i : ℕ) (p : ℕ × ℕ) → AreHeldOnce (pairs_of places) → pair_of places i ≡ Some p → is_held p.0 (pairs_of (take i places)) ≡ false
free_so_far [] i p once e = let wrong : ◌≡◌ {A = Option (ℕ × ℕ)} None (Some p) = e in absurd (cc)
free_so_far (x ∷ rest) zero p once e = refl
free_so_far (None ∷ rest) (suc i) p once e = free_so_far rest i p once e
free_so_far (Some q ∷ rest) (suc i) p once e =
    let other : (q.0 == p.0) ≡ false = ne_eqb q.0 p.0 (λ same.
    let held : is_held p.0 (pairs_of rest) ≡ true = there_true (pairs_of rest) p.0 p.1 (pair_is_at rest i p.0 p.1 e) in
    let free : is_held p.0 (pairs_of rest) ≡ false = subst (λ (n : ℕ). is_held n (pairs_of rest) ≡ false) same once.0 in
    absurd (cc)) in
    rw other (free_so_far rest i p once.1 e)

-- they are fewer than all
pub fewer_so_far : (places : List (Option (ℕ × ℕ))) (i : ℕ) (p : ℕ × ℕ) → pair_of places i ≡ Some p → length (pairs_of (take i places)) < length (pairs_of places)
fewer_so_far [] i p e = let wrong : ◌≡◌ {A = Option (ℕ × ℕ)} None (Some p) = e in absurd (cc)
fewer_so_far (None ∷ rest) zero p e = let wrong : ◌≡◌ {A = Option (ℕ × ℕ)} None (Some p) = e in absurd (cc)
fewer_so_far (Some q ∷ rest) zero p e = omega arith
fewer_so_far (None ∷ rest) (suc i) p e = fewer_so_far rest i p e
fewer_so_far (Some q ∷ rest) (suc i) p e = let lt = fewer_so_far rest i p e in omega (arith, lt)

-- and with the next one they are one more
pub more_so_far : (places : List (Option (ℕ × ℕ))) (i : ℕ) (o : Option (ℕ × ℕ)) → i < length places → o ≡ pair_of places i → pairs_of (take (i + 1) places) ≡ pairs_of (take i places) ++ pairs_of (o ∷ [])
more_so_far places i o lt e = ap pairs_of (take_on places i o lt e) ∙ pairs_join (take i places) (o ∷ [])

-- or no more
pub same_so_far : (places : List (Option (ℕ × ℕ))) (i : ℕ) → i < length places → None ≡ pair_of places i → pairs_of (take (i + 1) places) ≡ pairs_of (take i places)
same_so_far places i lt e = more_so_far places i None lt e ∙ append-nil (pairs_of (take i places))

pub count_so_far : (places : List (Option (ℕ × ℕ))) (i : ℕ) (p : ℕ × ℕ) → i < length places → Some p ≡ pair_of places i → length (pairs_of (take (i + 1) places)) ≡ length (pairs_of (take i places)) + 1
count_so_far places i p lt e = ap length (more_so_far places i (Some p) lt e) ∙ length-append (pairs_of (take i places)) (p ∷ [])
