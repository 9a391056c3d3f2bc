-- What the index tells of an item.
use Rattle.std.proofs.Common.{◌≡◌, ℕ, ◌<◌, List, [], ◌∷◌, length, refl, sym, ap, subst, inl, inr, true, false}
use Rattle.std.specs.Prelude.{Option, Some, None, ◌==◌}
use Rattle.std.proofs.lemmas.Bool.{eqb-true, eq-eqb}
use Rattle.number_slots.specs.Slots.{IsAt}
use Rattle.number_slots.proofs.ByNumber.{by_bool, there_true, there_false}
use Rattle.reservations.specs.Held.{is_held, holder_of, AreHeldOnce}
use Rattle.reservations.specs.Places.{pairs_of, pair_of, IsIndex}
use Rattle.reservations.proofs.Placed.{pair_is_at, at_has_place, pair_within, index_once}

-- what isn't found is free
pub lost_free : (f : ℕ → Option ℕ) (places : List (Option (ℕ × ℕ))) (id : ℕ) → IsIndex f places → f id ≡ None → is_held id (pairs_of places) ≡ false
lost_free f places id index e = there_false (pairs_of places) id (λ c h.
    let k = at_has_place places id c h in
    let g : f id ≡ Some k.0 = index.whole id c k.0 k.1 in
    absurd (cc))

free_lost_by : (f : ℕ → Option ℕ) (places : List (Option (ℕ × ℕ))) (id : ℕ) (r : Option ℕ) → IsIndex f places → is_held id (pairs_of places) ≡ false → f id ≡ r → f id ≡ None
free_lost_by f places id None index free e = e
free_lost_by f places id (Some i) index free e =
    let s = index.right id i e in
    let held : is_held id (pairs_of places) ≡ true = there_true (pairs_of places) id s.0 (pair_is_at places i id s.0 s.1) in
    absurd (cc)

-- what is free isn't found
pub free_lost : (f : ℕ → Option ℕ) (places : List (Option (ℕ × ℕ))) (id : ℕ) → IsIndex f places → is_held id (pairs_of places) ≡ false → f id ≡ None
free_lost f places id index free = free_lost_by f places id (f id) index free refl

holder_of_free : (id : ℕ) (xs : List (ℕ × ℕ)) → is_held id xs ≡ false → holder_of id xs ≡ None
holder_of_free id [] free = refl
holder_of_free id (x ∷ xs) free = by_bool (x.0 == id) (holder_of id (x ∷ xs) ≡ None)
    (λ t. let wrong : true ≡ false = rw t at free in absurd (cc))
    (λ n. rw n (holder_of_free id xs (rw n at free)))

holder_of_at : (id c : ℕ) (xs : List (ℕ × ℕ)) → AreHeldOnce xs → IsAt xs id c → holder_of id xs ≡ Some c
holder_of_at id c [] once h = absurd h
holder_of_at id c (x ∷ xs) once (inl h) = let t : (x.0 == id) ≡ true = eq-eqb x.0 id h.0 in rw t (ap Some h.1)
holder_of_at id c (x ∷ xs) once (inr h) = by_bool (x.0 == id) (holder_of id (x ∷ xs) ≡ Some c)
    (λ t.
    let held : is_held id xs ≡ true = there_true xs id c h in
    let free : is_held id xs ≡ false = subst (λ (n : ℕ). is_held n xs ≡ false) (eqb-true x.0 id t) once.0 in
    absurd (cc))
    (λ n. rw n (holder_of_at id c xs once.1 h))

-- an item that isn't found has no holder
pub lost_holder : (f : ℕ → Option ℕ) (places : List (Option (ℕ × ℕ))) (id : ℕ) → IsIndex f places → f id ≡ None → None ≡ holder_of id (pairs_of places)
lost_holder f places id index e = sym (holder_of_free id (pairs_of places) (lost_free f places id index e))

-- the pair at the place that is found has the item
pub found_at : (f : ℕ → Option ℕ) (places : List (Option (ℕ × ℕ))) (id i : ℕ) (p : ℕ × ℕ) → IsIndex f places → f id ≡ Some i → pair_of places i ≡ Some p → IsAt (pairs_of places) id p.1
found_at f places id i p index e g =
    let s = index.right id i e in
    let h = s.1 in
    let same : p ≡ (id, s.0) = cc in
    subst (λ (c : ℕ). IsAt (pairs_of places) id c) (sym (ap (λ q. q.1) same)) (pair_is_at places i id s.0 s.1)

-- the client of the pair at the place that is found holds the item
pub found_holder : (f : ℕ → Option ℕ) (places : List (Option (ℕ × ℕ))) (id i : ℕ) (p : ℕ × ℕ) → IsIndex f places → f id ≡ Some i → pair_of places i ≡ Some p → Some p.1 ≡ holder_of id (pairs_of places)
found_holder f places id i p index e g = sym (holder_of_at id p.1 (pairs_of places) (index_once f places index) (found_at f places id i p index e g))

-- what is found is a place
pub found_within : (f : ℕ → Option ℕ) (places : List (Option (ℕ × ℕ))) (id i : ℕ) → IsIndex f places → f id ≡ Some i → i < length places
found_within f places id i index e = let s = index.right id i e in pair_within places i (id, s.0) s.1
