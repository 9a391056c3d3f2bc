-- Pairs of an item and its client, of which no two have one item.
use Rattle.std.proofs.Common.{◌≡◌, ℕ, ◌≤◌, List, [], ◌∷◌, length, refl, sym, ap, subst, ◌∙◌, arith, inl, inr, Bool, true, false}
use Rattle.std.specs.Prelude.{Option, Some, None, is_some, IfSome, IfNone, ◌==◌}
use Rattle.std.specs.List.{filter}
use Rattle.std.proofs.lemmas.Bool.{eqb-true}
use Rattle.number_slots.specs.Slots.{IsAt}
use Rattle.number_slots.proofs.ByNumber.{by_bool, there_true}
use Rattle.reservations.specs.Held.{is_held, holder_of, IsHolder, AreHeldOnce}

-- ---- what a filter leaves

free_left : (f : (ℕ × ℕ) → Bool) (id : ℕ) (xs : List (ℕ × ℕ)) → is_held id xs ≡ false → is_held id (filter f xs) ≡ false
free_left f id [] free = refl
free_left f id (x ∷ xs) free = by_bool (x.0 == id) (is_held id (filter f (x ∷ xs)) ≡ false)
    (λ t. let wrong : true ≡ false = rw t at free in absurd (cc))
    (λ n. let more = free_left f id xs (rw n at free) in
    by_bool (f x) (is_held id (filter f (x ∷ xs)) ≡ false) (λ t. rw (t, n) more) (λ e. rw e more))

pub once_left : (f : (ℕ × ℕ) → Bool) (xs : List (ℕ × ℕ)) → AreHeldOnce xs → AreHeldOnce (filter f xs)
once_left f [] once = tt
once_left f (x ∷ xs) once = by_bool (f x) (AreHeldOnce (filter f (x ∷ xs)))
    (λ t. rw t (free_left f x.0 xs once.0, once_left f xs once.1))
    (λ e. rw e (once_left f xs once.1))

pub fewer_left : (f : (ℕ × ℕ) → Bool) (xs : List (ℕ × ℕ)) → length (filter f xs) ≤ length xs
fewer_left f [] = omega arith
fewer_left f (x ∷ xs) = let le = fewer_left f xs in by_bool (f x) (length (filter f (x ∷ xs)) ≤ length (x ∷ xs))
    (λ t. rw t (omega (arith, le)))
    (λ e. rw e (omega (arith, le)))

-- ---- who holds an item

one_holder : (xs : List (ℕ × ℕ)) (id c d : ℕ) → AreHeldOnce xs → IsAt xs id c → IsAt xs id d → d ≡ c
one_holder [] id c d once f g = absurd f
one_holder (x ∷ xs) id c d once (inl f) (inl g) = sym g.1 ∙ f.1
one_holder (x ∷ xs) id c d once (inl f) (inr g) =
    let held : is_held id xs ≡ true = there_true xs id d g in
    let free : is_held id xs ≡ false = subst (λ (n : ℕ). is_held n xs ≡ false) f.0 once.0 in
    absurd (cc)
one_holder (x ∷ xs) id c d once (inr f) (inl g) =
    let held : is_held id xs ≡ true = there_true xs id c f in
    let free : is_held id xs ≡ false = subst (λ (n : ℕ). is_held n xs ≡ false) g.0 once.0 in
    absurd (cc)
one_holder (x ∷ xs) id c d once (inr f) (inr g) = one_holder xs id c d once.1 f g

holder_at : (id : ℕ) (xs : List (ℕ × ℕ)) (c : ℕ) → holder_of id xs ≡ Some c → IsAt xs id c
holder_at id [] c e = let wrong : None ≡ Some c = e in absurd (cc)
holder_at id (x ∷ xs) c e = by_bool (x.0 == id) (IsAt (x ∷ xs) id c)
    (λ t. let here : Some x.1 ≡ Some c = rw t at e in inl (eqb-true x.0 id t, cc))
    (λ n. inr (holder_at id xs c (rw n at e)))

pub holder_held : (id : ℕ) (xs : List (ℕ × ℕ)) → is_held id xs ≡ is_some (holder_of id xs)
holder_held id [] = refl
holder_held id (x ∷ xs) = by_bool (x.0 == id) (is_held id (x ∷ xs) ≡ is_some (holder_of id (x ∷ xs)))
    (λ t. rw t refl)
    (λ n. rw n (holder_held id xs))

pub holder_some : (r : Option ℕ) (id : ℕ) (xs : List (ℕ × ℕ)) → r ≡ holder_of id xs → IfSome r (λ client. IsHolder xs id client)
holder_some None id xs e = tt
holder_some (Some c) id xs e = holder_at id xs c (sym e)

pub holder_only : (r : Option ℕ) (id : ℕ) (xs : List (ℕ × ℕ)) → r ≡ holder_of id xs → AreHeldOnce xs → IfSome r (λ client. (other : ℕ) → IsHolder xs id other → other ≡ client)
holder_only None id xs e once = tt
holder_only (Some c) id xs e once = λ other h. one_holder xs id c other once (holder_at id xs c (sym e)) h

pub holder_none : (r : Option ℕ) (id : ℕ) (xs : List (ℕ × ℕ)) → r ≡ holder_of id xs → IfNone r ((client : ℕ) → IsHolder xs id client → ⊥)
holder_none None id xs e = λ client h.
    let held : is_held id xs ≡ true = there_true xs id client h in
    let free : is_held id xs ≡ false = holder_held id xs ∙ ap is_some (sym e) in
    absurd (cc)
holder_none (Some c) id xs e = tt
