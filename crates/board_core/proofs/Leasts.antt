-- Least numbers: of two sets together, and of what the elements of a list give.
use Rattle.std.proofs.Common.{◌≡◌, ℕ, zero, suc, ◌+◌, ◌<◌, ◌≤◌, List, [], ◌∷◌, ◌++◌, length, get_or, take, drop, refl, sym, ap, subst, ◌∙◌, arith, inl, inr, Bool, true, false}
use Rattle.std.specs.Prelude.{◌⊎◌, nat_le, Option, Some, None, Any, slice_get}
use Rattle.std.specs.List.{AllByRecursion}
use Rattle.std.proofs.lemmas.Bool.{leb-true, leb-false}
use Rattle.board_items.specs.declared.history.Why.{Why}
use Rattle.number_slots.specs.Leasts.{IsLeast}
use Rattle.board_core.specs.Bars.{lesser_of}
use Rattle.board_core.specs.Reasons.{Least}

-- two sets that are the same have the same least number
pub least_same : (S T : ℕ → Type 0) (r : Option ℕ) → ((n : ℕ) → S n → T n) → ((n : ℕ) → T n → S n) → IsLeast S r → IsLeast T r
least_same S T None f b h = λ n t. h n (b n t)
least_same S T (Some n) f b h = (f n h.0, λ m t. h.1 m (b m t))

lesser_two : (S T : ℕ → Type 0) (a b : ℕ) (t : Bool) → nat_le a b ≡ t → IsLeast S (Some a) → IsLeast T (Some b) → IsLeast (λ n. S n ⊎ T n) (lesser_of (Some a) (Some b))
lesser_two S T a b true e f g = let le : a ≤ b = leb-true a b e in rw e (inl f.0, λ m h. elim h [ inl s ↦ f.1 m s | inr t ↦ (let k = g.1 m t in omega arith) ])
lesser_two S T a b false e f g = let lt : b < a = leb-false a b e in rw e (inr g.0, λ m h. elim h [ inl s ↦ (let k = f.1 m s in omega arith) | inr t ↦ g.1 m t ])

-- the least number of two sets is the lesser of their least numbers
pub least_or : (S T : ℕ → Type 0) (a b : Option ℕ) → IsLeast S a → IsLeast T b → IsLeast (λ n. S n ⊎ T n) (lesser_of a b)
least_or S T None None f g = λ n h. elim h [ inl s ↦ f n s | inr t ↦ g n t ]
least_or S T None (Some b) f g = (inr g.0, λ m h. elim h [ inl s ↦ absurd (f m s) | inr t ↦ g.1 m t ])
least_or S T (Some a) None f g = (inl f.0, λ m h. elim h [ inl s ↦ f.1 m s | inr t ↦ absurd (g m t) ])
least_or S T (Some a) (Some b) f g = lesser_two S T a b (nat_le a b) refl f g

-- a least number, as a reason
pub least_told : (S : ℕ → Type 0) (say : ℕ → Why) (n : ℕ) → IsLeast S (Some n) → Least S say (Some (say n))
least_told S say n h = (n, h.0, h.1, refl)

-- ---- one of a list

-- some element, one after another
abbrev pub AnyOf : {T : Type 0} → (T → Type 0) → List T → Type 0
AnyOf P [] = ⊥
AnyOf P (x ∷ xs) = P x ⊎ AnyOf P xs

pub any_of : {T : Type 0} (P : T → Type 0) (xs : List T) → Any P xs → AnyOf P xs
any_of P [] (k, x, lt, at, h) = absurd (omega (arith, lt))
any_of P (y ∷ ys) (zero, x, lt, at, h) = inl (subst P (sym at) h)
any_of P (y ∷ ys) (suc k, x, lt, at, h) = inr (any_of P ys (k, x, omega (arith, lt), at, h))

pub of_any : {T : Type 0} (P : T → Type 0) (xs : List T) → AnyOf P xs → Any P xs
of_any P [] h = absurd h
of_any P (y ∷ ys) (inl h) = (0, y, omega arith, refl, h)
of_any P (y ∷ ys) (inr h) = let k = of_any P ys h in (suc k.0, k.1, omega (arith, k.2), k.3, k.4)

pub any_map : {T : Type 0} (P Q : T → Type 0) (xs : List T) → ((x : T) → P x → Q x) → AnyOf P xs → AnyOf Q xs
any_map P Q [] f h = absurd h
any_map P Q (x ∷ xs) f (inl h) = inl (f x h)
any_map P Q (x ∷ xs) f (inr h) = inr (any_map P Q xs f h)

any_front : {T : Type 0} (P : T → Type 0) (xs : List T) (x : T) → AnyOf P xs → AnyOf P (xs ++ x ∷ [])
any_front P [] x h = absurd h
any_front P (y ∷ ys) x (inl h) = inl h
any_front P (y ∷ ys) x (inr h) = inr (any_front P ys x h)

any_last : {T : Type 0} (P : T → Type 0) (xs : List T) (x : T) → P x → AnyOf P (xs ++ x ∷ [])
any_last P [] x h = inl h
any_last P (y ∷ ys) x h = inr (any_last P ys x h)

any_either : {T : Type 0} (P : T → Type 0) (xs : List T) (x : T) → AnyOf P (xs ++ x ∷ []) → AnyOf P xs ⊎ P x
any_either P [] x (inl h) = inr h
any_either P [] x (inr h) = absurd h
any_either P (y ∷ ys) x (inl h) = inl (inl h)
any_either P (y ∷ ys) x (inr h) = elim (any_either P ys x h) [ inl f ↦ inl (inr f) | inr g ↦ inr g ]

take_suc : {T : Type 0} (xs : List T) (i : ℕ) (x : T) → slice_get xs i ≡ Some x → take (suc i) xs ≡ take i xs ++ x ∷ []
take_suc [] i x e = absurd cc
take_suc (y ∷ ys) zero x e = let same : y ≡ x = cc in ap (λ z. z ∷ []) same
take_suc (y ∷ ys) (suc i) x e = ap (λ zs. y ∷ zs) (take_suc ys i x e)

-- the least number for a front of a list, and for the next element, give that for a longer front
pub least_more : {T : Type 0} (S : T → ℕ → Type 0) (xs : List T) (i : ℕ) (x : T) (a b : Option ℕ) → slice_get xs i ≡ Some x → IsLeast (λ n. AnyOf (λ y. S y n) (take i xs)) a → IsLeast (S x) b
    → IsLeast (λ n. AnyOf (λ y. S y n) (take (i + 1) xs)) (lesser_of a b)
least_more S xs i x a b at f g =
    let next : i + 1 ≡ suc i = omega arith in
    let cut : take (i + 1) xs ≡ take i xs ++ x ∷ [] = ap (λ (n : ℕ). take n xs) next ∙ take_suc xs i x at in
    let both : IsLeast (λ n. AnyOf (λ y. S y n) (take i xs ++ x ∷ [])) (lesser_of a b) = least_same (λ n. AnyOf (λ y. S y n) (take i xs) ⊎ S x n) (λ n. AnyOf (λ y. S y n) (take i xs ++ x ∷ [])) (lesser_of a b)
    (λ n h. elim h [ inl h ↦ any_front (λ y. S y n) (take i xs) x h | inr h ↦ any_last (λ y. S y n) (take i xs) x h ])
    (λ n h. any_either (λ y. S y n) (take i xs) x h) (least_or (λ n. AnyOf (λ y. S y n) (take i xs)) (S x) a b f g) in
    subst (λ ys. IsLeast (λ n. AnyOf (λ y. S y n) ys) (lesser_of a b)) (sym cut) both

pub get_there : {T : Type 0} (xs : List T) (i : ℕ) (d : T) → i < length xs → slice_get xs i ≡ Some (get_or xs i d)
get_there [] i d lt = absurd (omega arith)
get_there (x ∷ xs) zero d lt = refl
get_there (x ∷ xs) (suc i) d lt = get_there xs i d (omega arith)

-- the same, of the element at a place
pub least_at : {T : Type 0} (S : T → ℕ → Type 0) (xs : List T) (i : ℕ) (d : T) (a b : Option ℕ) → i < length xs → IsLeast (λ n. AnyOf (λ y. S y n) (take i xs)) a → IsLeast (S (get_or xs i d)) b
    → IsLeast (λ n. AnyOf (λ y. S y n) (take (i + 1) xs)) (lesser_of a b)
least_at S xs i d a b lt f g = least_more S xs i (get_or xs i d) a b (get_there xs i d lt) f g

-- what holds of all holds of the element at a place
pub all_at : {T : Type 0} (P : T → Type 0) (xs : List T) (i : ℕ) (d : T) → i < length xs → AllByRecursion P xs → P (get_or xs i d)
all_at P [] i d lt all = absurd (omega arith)
all_at P (x ∷ xs) zero d lt all = all.0
all_at P (x ∷ xs) (suc i) d lt all = all_at P xs i d (omega arith) all.1

left_suc : {T : Type 0} (xs : List T) (i : ℕ) (x : T) → slice_get xs i ≡ Some x → drop i xs ≡ x ∷ drop (suc i) xs
left_suc [] i x e = absurd cc
left_suc (y ∷ ys) zero x e = let same : y ≡ x = cc in ap (λ z. z ∷ ys) same
left_suc (y ∷ ys) (suc i) x e = left_suc ys i x e

-- what is left from a place on, with the element there
pub left_there : {T : Type 0} (xs : List T) (i : ℕ) (x : T) → slice_get xs i ≡ Some x → drop i xs ≡ x ∷ drop (i + 1) xs
left_there xs i x e = let next : suc i ≡ i + 1 = omega arith in left_suc xs i x e ∙ ap (λ (n : ℕ). x ∷ drop n xs) next
