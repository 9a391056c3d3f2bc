-- Who holds what after an act.
use Rattle.std.proofs.Common.{◌≡◌, ℕ, ◌+◌, ◌≤◌, List, [], ◌∷◌, ◌++◌, length, length-append, refl, sym, ap, arith, inl, inr, Bool, true, false}
use Rattle.std.specs.Prelude.{not, ◌==◌, ◌&&◌, Option, Some, None, is_some, IfSome, IfNone}
use Rattle.std.specs.List.{filter}
use Rattle.std.proofs.lemmas.Bool.{eqb-true, eq-eqb}
use Rattle.board_items.specs.declared.items.Item.{Item}
use Rattle.number_slots.specs.Slots.{is_among, IsAt, IsThere}
use Rattle.number_slots.proofs.ByNumber.{by_bool}
use Rattle.reservations.specs.Held.{is_held, released, not_of}
use Rattle.board_core.specs.Boards.{is_numbered, reserved, released_by}

-- ---- what is there of an answer

pub none_told : {A P : Type 0} (r : Option A) → is_some r ≡ false → IfNone r P → P
none_told None e h = h
none_told (Some x) e h = absurd cc

pub some_told : {A : Type 0} (P : A → Type 0) (r : Option A) → is_some r ≡ true → IfSome r P → (x : A) × P x
some_told P None e h = absurd cc
some_told P (Some x) e h = (x, h)

-- ---- what has a number

pub numbered_at : {T : Type 0} (n : ℕ) (xs : List (ℕ × T)) (x : T) → IsAt xs n x → is_numbered n xs ≡ true
numbered_at n [] x h = absurd h
numbered_at n (y ∷ ys) x (inl h) = let e : (y.0 == n) ≡ true = eq-eqb y.0 n h.0 in rw e refl
numbered_at n (y ∷ ys) x (inr h) = let more = numbered_at n ys x h in by_bool (y.0 == n) (is_numbered n (y ∷ ys) ≡ true) (λ t. rw t refl) (λ f. rw f more)

pub numbered_none : {T : Type 0} (n : ℕ) (xs : List (ℕ × T)) → (IsThere xs n → ⊥) → is_numbered n xs ≡ false
numbered_none n [] none = refl
numbered_none n (y ∷ ys) none =
    let more = numbered_none n ys (λ t. none (t.0, inr t.1)) in
    by_bool (y.0 == n) (is_numbered n (y ∷ ys) ≡ false) (λ t. absurd (none (y.1, inl (eqb-true y.0 n t, refl)))) (λ f. rw f more)

-- ---- one more reservation

-- nothing is reserved where nothing is live
pub reserved_gone : (live : List (ℕ × Item)) (held : List (ℕ × ℕ)) (id client : ℕ) → (IsThere live id → ⊥) → held ≡ reserved live held id client
reserved_gone live held id client none = let e = numbered_none id live none in rw e refl

reserved_by : (live : List (ℕ × Item)) (held : List (ℕ × ℕ)) (id client : ℕ) (b : Bool) → is_numbered id live ≡ b → is_numbered id held ≡ true → held ≡ reserved live held id client
reserved_by live held id client true e taken = rw (e, taken) refl
reserved_by live held id client false e taken = rw e refl

-- nor where somebody holds the item
pub reserved_taken : (live : List (ℕ × Item)) (held : List (ℕ × ℕ)) (id client : ℕ) → is_held id held ≡ true → held ≡ reserved live held id client
reserved_taken live held id client taken = reserved_by live held id client (is_numbered id live) refl taken

-- a live item that is free is
pub reserved_free : (live : List (ℕ × Item)) (held : List (ℕ × ℕ)) (id client : ℕ) (x : Item) → IsAt live id x → is_held id held ≡ false → held ++ (id, client) ∷ [] ≡ reserved live held id client
reserved_free live held id client x here free = let e = numbered_at id live x here in rw (e, free) refl

pub one_more : (held : List (ℕ × ℕ)) (pair : ℕ × ℕ) → length (held ++ pair ∷ []) ≤ length held + 1
one_more held pair = omega (arith, length-append held (pair ∷ []))

-- ---- fewer reservations

fewer_one : {T : Type 0} (p : T → Bool) (x : T) (xs : List T) (b : Bool) → p x ≡ b → length (filter p xs) ≤ length xs → length (filter p (x ∷ xs)) ≤ length (x ∷ xs)
fewer_one p x xs true e more = rw e (omega (arith, more))
fewer_one p x xs false e more = rw e (omega (arith, more))

-- what is left of a list is no longer than the list
pub fewer : {T : Type 0} (p : T → Bool) (xs : List T) → length (filter p xs) ≤ length xs
fewer p [] = omega arith
fewer p (x ∷ xs) = fewer_one p x xs (p x) refl (fewer p xs)

pub released_fewer : (id : ℕ) (held new : List (ℕ × ℕ)) → new ≡ released id held → length new ≤ length held
released_fewer id held new is = let less = fewer (λ x. not (is_among x.0 (id ∷ []))) held in let same = ap length is in omega (arith, less, same)

pub left_fewer : (client : ℕ) (held new : List (ℕ × ℕ)) → new ≡ not_of client held → length new ≤ length held
left_fewer client held new is = let less = fewer (λ x. not (x.1 == client)) held in let same = ap length is in omega (arith, less, same)

stays_one : (id client : ℕ) (x : ℕ × ℕ) (xs : List (ℕ × ℕ)) (b : Bool) → ((x.0 == id) && (x.1 == client)) ≡ b → (b ≡ true → ⊥) → released_by id client xs ≡ xs → released_by id client (x ∷ xs) ≡ x ∷ xs
stays_one id client x xs true e none more = absurd (none refl)
stays_one id client x xs false e none more = rw e (ap (λ (ys : List (ℕ × ℕ)). x ∷ ys) more)

both_true : (a b : Bool) → (a && b) ≡ true → (a ≡ true) × (b ≡ true)
both_true true b e = (refl, e)
both_true false b e = absurd cc

-- nothing is released that the client doesn't hold
pub released_none : (id client : ℕ) (xs : List (ℕ × ℕ)) → (IsAt xs id client → ⊥) → released_by id client xs ≡ xs
released_none id client [] none = refl
released_none id client (x ∷ xs) none =
    stays_one id client x xs ((x.0 == id) && (x.1 == client)) refl
    (λ t. let both = both_true (x.0 == id) (x.1 == client) t in none (inl (eqb-true x.0 id both.0, eqb-true x.1 client both.1)))
    (released_none id client xs (λ h. none (inr h)))

own_one : (id client : ℕ) (x : ℕ × ℕ) (xs : List (ℕ × ℕ)) (b : Bool) → (x.0 == id) ≡ b → (x.0 ≡ id → x.1 ≡ client) → released id xs ≡ released_by id client xs → released id (x ∷ xs) ≡ released_by id client (x ∷ xs)
own_one id client x xs true e own more =
    let same : (id == x.0) ≡ true = eq-eqb id x.0 (sym (eqb-true x.0 id e)) in
    let f : (x.1 == client) ≡ true = eq-eqb x.1 client (own (eqb-true x.0 id e)) in rw (same, e, f) more
own_one id client x xs false e own more =
    by_bool (id == x.0) (released id (x ∷ xs) ≡ released_by id client (x ∷ xs))
    (λ t. let f : (x.0 == id) ≡ true = eq-eqb x.0 id (sym (eqb-true id x.0 t)) in absurd cc)
    (λ f. rw (f, e) (ap (λ (ys : List (ℕ × ℕ)). x ∷ ys) more))

-- where the client holds the item, nobody holds it any more
pub released_own : (id client : ℕ) (xs : List (ℕ × ℕ)) → ((other : ℕ) → IsAt xs id other → other ≡ client) → released id xs ≡ released_by id client xs
released_own id client [] own = refl
released_own id client (x ∷ xs) own =
    own_one id client x xs (x.0 == id) refl (λ e. own x.1 (inl (e, refl))) (released_own id client xs (λ other h. own other (inr h)))
