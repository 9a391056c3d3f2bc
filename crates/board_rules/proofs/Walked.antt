-- Lists that are walked from the front.
use Rattle.std.proofs.Common.{◌≡◌, ℕ, zero, suc, ◌+◌, ◌<◌, ◌≤◌, List, [], ◌∷◌, length, get_or, map, take, drop, Bool, true, false, refl, sym, ap, subst, ◌∙◌, arith, add-one, drop-cons}
use Rattle.std.specs.Prelude.{All, Any, IsTrue, ◌↔◌, slice_get, Some}
use Rattle.std.specs.List.{AllByRecursion}
use Rattle.std.proofs.lemmas.List.{length-map, get_or-map, take_all, drop_all}
use Rattle.std.proofs.lemmas.List.Elements.{All-more}

-- what holds of the elements that are left holds of the next one
pub at_next : {T : Type 0} (P : T → Type 0) (xs : List T) (i : ℕ) (x : T) → i < length xs → x ≡ get_or xs i x → AllByRecursion P (drop i xs) → P x
at_next P [] i x lt is all = absurd (omega arith)
at_next P (y ∷ ys) zero x lt is all = subst P (sym is) all.0
at_next P (y ∷ ys) (suc i) x lt is all = at_next P ys i x (omega arith) is all

-- what holds of all holds of each
pub at_place : {T : Type 0} (P : T → Type 0) (xs : List T) (i : ℕ) (x : T) → slice_get xs i ≡ Some x → AllByRecursion P xs → P x
at_place P [] i x is all = absurd cc
at_place P (y ∷ ys) zero x is all = let e : y ≡ x = cc in subst P e all.0
at_place P (y ∷ ys) (suc i) x is all = at_place P ys i x is all.1

-- the elements that are left begin with the next one
pub left_is : {T : Type 0} (xs : List T) (i : ℕ) (x : T) → i < length xs → x ≡ get_or xs i x → drop i xs ≡ x ∷ drop (i + 1) xs
left_is xs i x lt is = rw add-one (drop-cons xs i x lt ∙ ap (λ y. y ∷ drop (suc i) xs) (sym is))

-- what holds of the elements that are left holds of those behind the next one
pub all_left : {T : Type 0} (P : T → Type 0) (xs : List T) (i : ℕ) (x : T) → i < length xs → x ≡ get_or xs i x → AllByRecursion P (drop i xs) → AllByRecursion P (drop (i + 1) xs)
all_left P xs i x lt is all = (subst (AllByRecursion P) (left_is xs i x lt is) all).1

-- it holds of one more
pub all_more : {T : Type 0} (P : T → Type 0) (xs : List T) (i : ℕ) (x : T) → i < length xs → x ≡ get_or xs i x → All P (take i xs) → P x → All P (take (i + 1) xs)
all_more P xs i x lt is front here = All-more P xs i x lt front (subst P is here)

-- it holds of one more of a list that is made of another
pub all_made : {T U : Type 0} (P : U → Type 0) (f : T → U) (xs : List T) (i : ℕ) (x : T) → i < length xs → x ≡ get_or xs i x → All P (take i (map f xs)) → P (f x) → All P (take (i + 1) (map f xs))
all_made P f xs i x lt is front here =
    All-more P (map f xs) i (f x) (rw length-map lt) front (subst P (ap f is ∙ sym (get_or-map f xs i x (f x) lt)) here)

-- what holds of each element of a list that is made of another
pub made_at : {T U : Type 0} (P : U → Type 0) (f : T → U) (xs : List T) (i : ℕ) (x : T) → i < length xs → x ≡ get_or xs i x → All P (map f xs) → P (f x)
made_at P f xs i x lt is all =
    subst P (get_or-map f xs i x (f x) lt ∙ ap f (sym is)) (all i (f x) (rw length-map lt))

-- where one fails, not all hold
pub one_fails : {T U : Type 0} (P : U → Type 0) (f : T → U) (xs : List T) (i : ℕ) (x : T) → i < length xs → x ≡ get_or xs i x → (P (f x) → IsTrue false) → IsTrue false ↔ All P (map f xs)
one_fails P f xs i x lt is fails = (λ h. absurd cc, λ all. fails (made_at P f xs i x lt is all))

-- where all were walked, all hold
pub all_pass : {T : Type 0} (P : T → Type 0) (xs : List T) (i : ℕ) → length xs ≤ i → All P (take i xs) → IsTrue true ↔ All P xs
all_pass P xs i past front = (λ h. subst (λ ys. All P ys) (take_all i xs past) front, λ all. refl)

-- where each fails, none holds
pub none_holds : {T : Type 0} (P : T → Type 0) (xs : List T) (i : ℕ) → length xs ≤ i → All (λ x. P x → ⊥) (take i xs) → IsTrue false ↔ Any P xs
none_holds P xs i past front =
    let none = subst (λ ys. All (λ x. P x → ⊥) ys) (take_all i xs past) front in
    (λ h. absurd cc, λ any. absurd (none any.0 any.1 any.2 (subst P (sym any.3) any.4)))

-- where one holds, some holds
pub one_holds : {T : Type 0} (P : T → Type 0) (xs : List T) (i : ℕ) (x : T) → i < length xs → x ≡ get_or xs i x → P x → IsTrue true ↔ Any P xs
one_holds P xs i x lt is here = (λ h. (i, x, lt, sym is, here), λ any. refl)

-- the shapes of a list that is there
pub same_iff : {T : Type 0} (P : T → Type 0) (x y : T) (b : Bool) → x ≡ y → IsTrue b ↔ P x → IsTrue b ↔ P y
same_iff P x y b e h = subst (λ z. IsTrue b ↔ P z) e h

-- what holds of the next one and those behind it holds of the elements that are left
pub unwalked : {T : Type 0} (Q : List T → Type 0) (xs : List T) (i : ℕ) (x : T) → i < length xs → x ≡ get_or xs i x → Q (x ∷ drop (i + 1) xs) → Q (drop i xs)
unwalked Q xs i x lt is h = subst Q (sym (left_is xs i x lt is)) h

-- what holds of no elements holds where all were walked
pub ended : {T : Type 0} (Q : List T → Type 0) (xs : List T) (i : ℕ) → length xs ≤ i → Q [] → Q (drop i xs)
ended Q xs i past h = subst Q (sym (drop_all i xs past)) h
