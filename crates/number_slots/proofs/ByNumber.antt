-- Lists of things by number, and the slots that they stand in.
use Rattle.std.proofs.Common.{◌≡◌, ℕ, zero, suc, ◌+◌, ◌<◌, ◌≤◌, Bor, List, [], ◌∷◌, ◌++◌, length, refl, sym, ap, subst, ◌∙◌, arith, inl, inr, Bool, true, false, get_or, drop, add-one, drop-cons}
use Rattle.std.proofs.Math.ListN.{set}
use Rattle.std.specs.Prelude.{◌⊎◌, Option, Some, None, slice_get, not, ◌==◌, option_copied, IfSome, IfNone}
use Rattle.std.specs.List.{AllByRecursion, list_any}
use Rattle.std.proofs.lemmas.Bool.{eqb-true, eq-eqb, ne_eqb, cases_lt}
use Rattle.number_slots.specs.Slots.{is_among, without, IsAt, IsRisingFrom, there}

pub by_bool : (b : Bool) (C : Type 0) → (b ≡ true → C) → (b ≡ false → C) → C
by_bool true C t f = t refl
by_bool false C t f = f refl

-- ---- numbers that rise

-- nothing stands below the first number
pub at_least : {T : Type 0} (n : ℕ) (xs : List (ℕ × T)) (m : ℕ) (x : T) → IsRisingFrom n xs → IsAt xs m x → n ≤ m
at_least n [] m x r h = absurd h
at_least n (y ∷ ys) m x r (inl h) = omega (arith, r.0, h.0)
at_least n (y ∷ ys) m x r (inr h) = let le = at_least (y.0 + 1) ys m x r.1 h in omega (arith, r.0)

-- one thing stands under a number
pub at_once : {T : Type 0} (n : ℕ) (xs : List (ℕ × T)) (m : ℕ) (x y : T) → IsRisingFrom n xs → IsAt xs m x → IsAt xs m y → x ≡ y
at_once n [] m x y r f g = absurd f
at_once n (z ∷ zs) m x y r (inl f) (inl g) = sym f.1 ∙ g.1
at_once n (z ∷ zs) m x y r (inl f) (inr g) = let le = at_least (z.0 + 1) zs m y r.1 g in absurd (omega (arith, f.0))
at_once n (z ∷ zs) m x y r (inr f) (inl g) = let le = at_least (z.0 + 1) zs m x r.1 f in absurd (omega (arith, g.0))
at_once n (z ∷ zs) m x y r (inr f) (inr g) = at_once (z.0 + 1) zs m x y r.1 f g

-- what holds of all holds of what stands under a number
pub at_holds : {T : Type 0} (P : (ℕ × T) → Type 0) (xs : List (ℕ × T)) (m : ℕ) (x : T) → AllByRecursion P xs → IsAt xs m x → P (m, x)
at_holds P [] m x all h = absurd h
at_holds P (y ∷ ys) m x all (inl h) = let e : y ≡ (m, x) = λ i. (h.0 i, h.1 i) in subst P e all.0
at_holds P (y ∷ ys) m x all (inr h) = at_holds P ys m x all.1 h

-- ---- joined lists, and lists without some numbers

pub at_front : {T : Type 0} (xs ys : List (ℕ × T)) (m : ℕ) (x : T) → IsAt xs m x → IsAt (xs ++ ys) m x
at_front [] ys m x h = absurd h
at_front (z ∷ zs) ys m x (inl h) = inl h
at_front (z ∷ zs) ys m x (inr h) = inr (at_front zs ys m x h)

pub at_back : {T : Type 0} (xs ys : List (ℕ × T)) (m : ℕ) (x : T) → IsAt ys m x → IsAt (xs ++ ys) m x
at_back [] ys m x h = h
at_back (z ∷ zs) ys m x h = inr (at_back zs ys m x h)

pub at_either : {T : Type 0} (xs ys : List (ℕ × T)) (m : ℕ) (x : T) → IsAt (xs ++ ys) m x → IsAt xs m x ⊎ IsAt ys m x
at_either [] ys m x h = inr h
at_either (z ∷ zs) ys m x (inl h) = inl (inl h)
at_either (z ∷ zs) ys m x (inr h) = elim (at_either zs ys m x h) [ inl f ↦ inl (inr f) | inr g ↦ inr g ]

within_one : {T : Type 0} (ids : List ℕ) (y : ℕ × T) (ys : List (ℕ × T)) (m : ℕ) (x : T) (b : Bool) → not (is_among y.0 ids) ≡ b → (IsAt (without ids ys) m x → IsAt ys m x) → IsAt (without ids (y ∷ ys)) m x → IsAt (y ∷ ys) m x
within_one ids y ys m x true e more h = elim (rw e at h) [ inl f ↦ inl f | inr f ↦ inr (more f) ]
within_one ids y ys m x false e more h = inr (more (rw e at h))

-- what is left stood there before
pub at_within : {T : Type 0} (ids : List ℕ) (xs : List (ℕ × T)) (m : ℕ) (x : T) → IsAt (without ids xs) m x → IsAt xs m x
at_within ids [] m x h = h
at_within ids (y ∷ ys) m x h = within_one ids y ys m x (not (is_among y.0 ids)) refl (at_within ids ys m x) h

-- ---- slots

pub slot_at : {T : Type 0} (n i : ℕ) (xs : List (Option T)) (x : T) → slice_get xs i ≡ Some (Some x) → IsAt (there n xs) (n + i) x
slot_at n i [] x e = absurd (cc)
slot_at n zero (None ∷ xs) x e = absurd (cc)
slot_at n zero (Some y ∷ xs) x e = let same : y ≡ x = cc in inl (omega arith, same)
slot_at n (suc i) (None ∷ xs) x e = subst (λ (m : ℕ). IsAt (there (n + 1) xs) m x) (omega arith) (slot_at (n + 1) i xs x e)
slot_at n (suc i) (Some y ∷ xs) x e = inr (subst (λ (m : ℕ). IsAt (there (n + 1) xs) m x) (omega arith) (slot_at (n + 1) i xs x e))

pub at_slot : {T : Type 0} (n : ℕ) (xs : List (Option T)) (m : ℕ) (x : T) → IsAt (there n xs) m x → (i : ℕ) × (m ≡ n + i) × (slice_get xs i ≡ Some (Some x))
at_slot n [] m x h = absurd h
at_slot n (None ∷ xs) m x h = let k = at_slot (n + 1) xs m x h in (suc k.0, omega (arith, k.1), k.2)
at_slot n (Some y ∷ xs) m x (inl h) = (0, omega (arith, h.0), ap (λ z. Some (Some z)) h.1)
at_slot n (Some y ∷ xs) m x (inr h) = let k = at_slot (n + 1) xs m x h in (suc k.0, omega (arith, k.1), k.2)

from_lower : {T : Type 0} (n m : ℕ) (xs : List (ℕ × T)) → n ≤ m → IsRisingFrom m xs → IsRisingFrom n xs
from_lower n m [] le r = tt
from_lower n m (x ∷ xs) le r = (omega (arith, r.0), r.1)

-- what is there rises
pub there_rises : {T : Type 0} (n : ℕ) (xs : List (Option T)) → IsRisingFrom n (there n xs)
there_rises n [] = tt
there_rises n (None ∷ xs) = from_lower n (n + 1) (there (n + 1) xs) (omega arith) (there_rises (n + 1) xs)
there_rises n (Some x ∷ xs) = (omega arith, there_rises (n + 1) xs)

-- one more slot
pub there_more : {T : Type 0} (n : ℕ) (xs : List (Option T)) (o : Option T) → there n (xs ++ o ∷ []) ≡ there n xs ++ there (n + length xs) (o ∷ [])
there_more n [] o = ap (λ (m : ℕ). there m (o ∷ [])) (omega arith)
there_more n (None ∷ xs) o = there_more (n + 1) xs o ∙ ap (λ (m : ℕ). there (n + 1) xs ++ there m (o ∷ [])) (omega arith)
there_more n (Some x ∷ xs) o = ap (λ (ys : List (ℕ × _)). (n, x) ∷ ys) (there_more (n + 1) xs o ∙ ap (λ (m : ℕ). there (n + 1) xs ++ there m (o ∷ [])) (omega arith))

-- nothing stands past the slots
pub at_past : {T : Type 0} (n : ℕ) (xs : List (Option T)) (m : ℕ) (x : T) → IsAt (there n xs) m x → m < n + length xs
at_past n [] m x h = absurd h
at_past n (None ∷ xs) m x h = let lt = at_past (n + 1) xs m x h in omega (arith, lt)
at_past n (Some y ∷ xs) m x (inl h) = omega (arith, h.0)
at_past n (Some y ∷ xs) m x (inr h) = let lt = at_past (n + 1) xs m x h in omega (arith, lt)

-- what a slot that is read says of its number
pub read_some : {T : Type 0} (r : Option (Bor T)) (xs : List (Option T)) (id i : ℕ) (o : Option T) → option_copied r ≡ o → slice_get xs i ≡ Some o → id ≡ 1 + i → IfSome r (λ x. IsAt (there 1 xs) id x.now)
read_some None xs id i o e f is = tt
read_some (Some b) xs id i o e f is = subst (λ (m : ℕ). IsAt (there 1 xs) m b.now) (sym is) (slot_at 1 i xs b.now (f ∙ ap Some (sym e)))

pub read_only : {T : Type 0} (r : Option (Bor T)) (xs : List (Option T)) (id i : ℕ) (o : Option T) → option_copied r ≡ o → slice_get xs i ≡ Some o → id ≡ 1 + i → IfSome r (λ x. (y : T) → IsAt (there 1 xs) id y → y ≡ x.now)
read_only None xs id i o e f is = tt
read_only (Some b) xs id i o e f is = λ y h.
    let here : IsAt (there 1 xs) id b.now = subst (λ (m : ℕ). IsAt (there 1 xs) m b.now) (sym is) (slot_at 1 i xs b.now (f ∙ ap Some (sym e))) in
    at_once 1 (there 1 xs) id y b.now (there_rises 1 xs) h here

pub read_none : {T : Type 0} (r : Option (Bor T)) (xs : List (Option T)) (id i : ℕ) (o : Option T) → option_copied r ≡ o → slice_get xs i ≡ Some o → id ≡ 1 + i → IfNone r ((x : T) → IsAt (there 1 xs) id x → ⊥)
read_none None xs id i o e f is = λ x h.
    let k = at_slot 1 xs id x h in
    let same : k.0 ≡ i = omega (arith, k.1) in
    let g : slice_get xs i ≡ Some (Some x) = subst (λ (m : ℕ). slice_get xs m ≡ Some (Some x)) same k.2 in
    absurd (cc)
read_none (Some b) xs id i o e f is = tt

-- ---- a slot that is emptied

-- without a number that isn't there all stay
pub all_stay : {T : Type 0} (m : ℕ) (ys : List (ℕ × T)) → ((k : ℕ) (x : T) → IsAt ys k x → m ≡ k → ⊥) → without (m ∷ []) ys ≡ ys
all_stay m [] no_one = refl
all_stay m (y ∷ ys) no_one =
    let e : (m == y.0) ≡ false = ne_eqb m y.0 (λ q. no_one y.0 y.1 (inl (refl, refl)) q) in
    rw e (ap (λ zs. y ∷ zs) (all_stay m ys (λ k x h q. no_one k x (inr h) q)))

low_stay : {T : Type 0} (m n : ℕ) (ys : List (ℕ × T)) → IsRisingFrom n ys → m < n → without (m ∷ []) ys ≡ ys
low_stay m n ys r lt = all_stay m ys (λ k x h q. let le = at_least n ys k x r h in absurd (omega arith))

pub emptied : {T : Type 0} (n i : ℕ) (xs : List (Option T)) → i < length xs → there n (set xs i None) ≡ without ((n + i) ∷ []) (there n xs)
emptied n i [] lt = absurd (omega arith)
emptied n zero (None ∷ xs) lt = sym (low_stay (n + 0) (n + 1) (there (n + 1) xs) (there_rises (n + 1) xs) (omega arith))
emptied n zero (Some x ∷ xs) lt =
    let e : ((n + 0) == n) ≡ true = eq-eqb (n + 0) n (omega arith) in
    rw e (sym (low_stay (n + 0) (n + 1) (there (n + 1) xs) (there_rises (n + 1) xs) (omega arith)))
emptied n (suc i) (None ∷ xs) lt = emptied (n + 1) i xs (omega arith) ∙ ap (λ (m : ℕ). without (m ∷ []) (there (n + 1) xs)) (omega arith)
emptied n (suc i) (Some x ∷ xs) lt =
    let e : ((n + suc i) == n) ≡ false = ne_eqb (n + suc i) n (λ q. absurd (omega arith)) in
    let more : there (n + 1) (set xs i None) ≡ without ((n + suc i) ∷ []) (there (n + 1) xs) = emptied (n + 1) i xs (omega arith) ∙ ap (λ (m : ℕ). without (m ∷ []) (there (n + 1) xs)) (omega arith) in
    rw e (ap (λ zs. (n, x) ∷ zs) more)

two_here : {T : Type 0} (id : ℕ) (ids : List ℕ) (y : ℕ × T) (ys : List (ℕ × T)) (b : Bool) → is_among y.0 ids ≡ b → without (id ∷ ids) ys ≡ without ids (without (id ∷ []) ys) → (id == y.0) ≡ false → without (id ∷ ids) (y ∷ ys) ≡ without ids (without (id ∷ []) (y ∷ ys))
two_here id ids y ys true e more f = rw (f, e) more
two_here id ids y ys false e more f = rw (f, e) (ap (λ zs. y ∷ zs) more)

-- one number after another
pub without_two : {T : Type 0} (id : ℕ) (ids : List ℕ) (xs : List (ℕ × T)) → without (id ∷ ids) xs ≡ without ids (without (id ∷ []) xs)
without_two id ids [] = refl
without_two id ids (y ∷ ys) =
    by_bool (id == y.0) (without (id ∷ ids) (y ∷ ys) ≡ without ids (without (id ∷ []) (y ∷ ys)))
    (λ t. rw t (without_two id ids ys))
    (λ f. two_here id ids y ys (is_among y.0 ids) refl (without_two id ids ys) f)

pub without_none : {T : Type 0} (xs : List (ℕ × T)) → without [] xs ≡ xs
without_none [] = refl
without_none (y ∷ ys) = ap (λ zs. y ∷ zs) (without_none ys)

-- ---- numbers of a list

pub among_more : (m n : ℕ) (ids : List ℕ) → is_among m ids ≡ true → is_among m (n ∷ ids) ≡ true
among_more m n ids e = by_bool (n == m) (is_among m (n ∷ ids) ≡ true) (λ t. rw t refl) (λ f. rw f e)

pub among_first : (m n : ℕ) (ids : List ℕ) → n ≡ m → is_among m (n ∷ ids) ≡ true
among_first m n ids e = let t : (n == m) ≡ true = eq-eqb n m e in rw t refl

pub among_cases : (m n : ℕ) (ids : List ℕ) → is_among m (n ∷ ids) ≡ true → (n ≡ m) ⊎ (is_among m ids ≡ true)
among_cases m n ids e = by_bool (n == m) ((n ≡ m) ⊎ (is_among m ids ≡ true)) (λ t. inl (eqb-true n m t)) (λ f. inr (rw f at e))

-- ---- lists that are walked from the front

-- the elements that are left begin with the next one
pub left_at : {T : Type 0} (xs : List T) (i : ℕ) (d : T) → i < length xs → drop i xs ≡ get_or xs i d ∷ drop (i + 1) xs
left_at xs i d lt = rw add-one (drop-cons xs i d lt)

pub by_lt : (m n : ℕ) (C : Type 0) → (m < n → C) → (n ≤ m → C) → C
by_lt m n C f g = elim (cases_lt m n) [ inl h ↦ f h | inr h ↦ g h ]

-- ---- whether anything stands under a number

pub there_true : {T : Type 0} (xs : List (ℕ × T)) (m : ℕ) (x : T) → IsAt xs m x → list_any (λ y. y.0 == m) xs ≡ true
there_true [] m x h = absurd h
there_true (y ∷ ys) m x (inl h) = rw (eq-eqb y.0 m h.0) refl
there_true (y ∷ ys) m x (inr h) = by_bool (y.0 == m) (list_any (λ z. z.0 == m) (y ∷ ys) ≡ true) (λ t. rw t refl) (λ f. rw f (there_true ys m x h))

pub there_false : {T : Type 0} (xs : List (ℕ × T)) (m : ℕ) → ((x : T) → IsAt xs m x → ⊥) → list_any (λ y. y.0 == m) xs ≡ false
there_false [] m none = refl
there_false (y ∷ ys) m none = rw (ne_eqb y.0 m (λ e. none y.1 (inl (e, refl)))) (there_false ys m (λ x h. none x (inr h)))

-- no more things are there than slots
pub few_there : {T : Type 0} (n : ℕ) (xs : List (Option T)) → length (there n xs) ≤ length xs
few_there n [] = omega arith
few_there n (None ∷ xs) = let le = few_there (n + 1) xs in omega (arith, le)
few_there n (Some x ∷ xs) = let le = few_there (n + 1) xs in omega (arith, le)

-- what was found is the one thing under its number
pub only_one : {T : Type 0} (r : Option (Bor T)) (xs : List (Option T)) (id : ℕ) → IfSome r (λ x. IsAt (there 1 xs) id x.now) → IfSome r (λ x. (y : T) → IsAt (there 1 xs) id y → y ≡ x.now)
only_one None xs id h = tt
only_one (Some b) xs id h = λ y k. at_once 1 (there 1 xs) id y b.now (there_rises 1 xs) k h

-- slots behind slots
pub there_join : {T : Type 0} (n : ℕ) (xs ys : List (Option T)) → there n (xs ++ ys) ≡ there n xs ++ there (n + length xs) ys
there_join n [] ys = ap (λ (m : ℕ). there m ys) (omega arith)
there_join n (None ∷ xs) ys = there_join (n + 1) xs ys ∙ ap (λ (m : ℕ). there (n + 1) xs ++ there m ys) (omega arith)
there_join n (Some x ∷ xs) ys = ap (λ (zs : List (ℕ × _)). (n, x) ∷ zs) (there_join (n + 1) xs ys ∙ ap (λ (m : ℕ). there (n + 1) xs ++ there m ys) (omega arith))
