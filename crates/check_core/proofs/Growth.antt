-- Lists of numbers to which others come.
use Rattle.std.proofs.Common.{◌≡◌, ℕ, zero, suc, ◌+◌, ◌<◌, List, [], ◌∷◌, ◌++◌, length, get_or, take, sym, subst, ◌∙◌, arith, inl, inr, true}
use Rattle.std.specs.Prelude.{◌⊎◌, ◌↔◌, Any, Result, Ok, Err, OnOk, is_ok, if◌then◌else◌}
use Rattle.std.specs.List.{Contains}
use Rattle.std.proofs.lemmas.List.{take_more, get_or_default}
use Rattle.std.proofs.lemmas.List.Elements.{Contains-push_cases, Contains-append_left, Contains-append_right, Contains-append_cases, Contains-push}
use Rattle.number_slots.specs.Slots.{is_among}
use Rattle.number_slots.proofs.ByNumber.{among_first, among_more, among_cases}
use Rattle.check_core.specs.Tries.{GrowsBy}

-- a number that stands in a list is among it, and the other way round
pub among_of : (ids : List ℕ) (n : ℕ) → Contains ids n → is_among n ids ≡ true
among_of [] n (k, lt, at) = absurd (omega (arith, lt))
among_of (m ∷ rest) n (zero, lt, at) = among_first n m rest at
among_of (m ∷ rest) n (suc k, lt, at) = among_more n m rest (among_of rest n (k, omega (arith, lt), at))

pub of_among : (ids : List ℕ) (n : ℕ) → is_among n ids ≡ true → Contains ids n
of_among [] n h = absurd cc
of_among (m ∷ rest) n h = elim (among_cases n m rest h) [
  | inl e ↦ (0, omega arith, e)
  | inr more ↦ (let k = of_among rest n more in (suc k.0, omega (arith, k.1), k.2))
]

-- nothing comes
pub grows_none : (S : ℕ → Type 0) (old : List ℕ) → ((n : ℕ) → S n → ⊥) → GrowsBy S old old
grows_none S old none = λ n. (λ h. inl h, λ h. elim h [ inl a ↦ a | inr b ↦ absurd (none n b) ])

-- what comes is told in other words
pub grows_same : (S T : ℕ → Type 0) (old new : List ℕ) → ((n : ℕ) → S n → T n) → ((n : ℕ) → T n → S n) → GrowsBy S old new → GrowsBy T old new
grows_same S T old new f b g = λ n. (
  λ h. elim ((g n).0 h) [ inl a ↦ inl a | inr s ↦ inr (f n s) ],
  λ h. elim h [ inl a ↦ (g n).1 (inl a) | inr t ↦ (g n).1 (inr (b n t)) ],
)

-- the numbers of a list come
pub grows_ids : (S : ℕ → Type 0) (ids old new : List ℕ) → new ≡ old ++ ids → ((n : ℕ) → (is_among n ids ≡ true) ↔ S n) → GrowsBy S old new
grows_ids S ids old new e exact = λ n. (
  λ h. elim (Contains-append_cases old ids n (subst (λ (l : List ℕ). Contains l n) e h)) [ inl a ↦ inl a | inr b ↦ inr ((exact n).0 (among_of ids n b)) ],
  λ h. subst (λ (l : List ℕ). Contains l n) (sym e)
      (elim h [ inl a ↦ Contains-append_left old ids n a | inr s ↦ Contains-append_right old ids n (of_among ids n ((exact n).1 s)) ]),
)

-- they come where there is memory for them
pub grows_if : {A E : Type 0} (S : ℕ → Type 0) (r : Result A E) (ids old new : List ℕ) → new ≡ (if is_ok r then old ++ ids else old) → ((n : ℕ) → (is_among n ids ≡ true) ↔ S n) → OnOk r (GrowsBy S old new)
grows_if S (Ok x) ids old new e exact = grows_ids S ids old new e exact
grows_if S (Err x) ids old new e exact = tt

-- what comes is told in other words, where there is memory for it
pub grows_same_if : {A E : Type 0} (S T : ℕ → Type 0) (r : Result A E) (old new : List ℕ) → ((n : ℕ) → S n → T n) → ((n : ℕ) → T n → S n) → OnOk r (GrowsBy S old new) → OnOk r (GrowsBy T old new)
grows_same_if S T (Ok x) old new f b g = grows_same S T old new f b g
grows_same_if S T (Err x) old new f b g = tt

-- what comes to no number is all
pub grown_all : (S : ℕ → Type 0) (old new : List ℕ) → old ≡ [] → GrowsBy S old new → (n : ℕ) → Contains new n ↔ S n
grown_all S old new none g n = (
  λ h. elim ((g n).0 h) [ inl a ↦ (let c = subst (λ (l : List ℕ). Contains l n) none a in absurd (omega (arith, c.1))) | inr s ↦ s ],
  λ s. (g n).1 (inr s),
)

pub any_front : {T : Type 0} (P : T → Type 0) (xs : List T) (x : T) → Any P xs → Any P (xs ++ x ∷ [])
any_front P xs x a = let c = Contains-append_left xs (x ∷ []) a.1 (a.0, a.2, a.3) in (c.0, a.1, c.1, c.2, a.4)

pub any_last : {T : Type 0} (P : T → Type 0) (xs : List T) (x : T) → P x → Any P (xs ++ x ∷ [])
any_last P xs x h = let c = Contains-push xs x in (c.0, x, c.1, c.2, h)

pub any_either : {T : Type 0} (P : T → Type 0) (xs : List T) (x : T) → Any P (xs ++ x ∷ []) → Any P xs ⊎ P x
any_either P xs x a = elim (Contains-push_cases xs x a.1 (a.0, a.2, a.3)) [
  | inl c ↦ inl (c.0, a.1, c.1, c.2, a.4)
  | inr e ↦ inr (subst P (sym e) a.4)
]

-- what a front of a list gives, and then the next element, is what a longer front gives
pub grows_more : {T : Type 0} (S : T → ℕ → Type 0) (xs : List T) (i : ℕ) (x : T) (old now next : List ℕ) → i < length xs → x ≡ get_or xs i x
    → GrowsBy (λ n. Any (λ y. S y n) (take i xs)) old now → GrowsBy (S x) now next → GrowsBy (λ n. Any (λ y. S y n) (take (i + 1) xs)) old next
grows_more {T} S xs i x old now next lt is front here =
    let cut : take (i + 1) xs ≡ take i xs ++ x ∷ [] = take_more xs i x lt ∙ (λ j. take i xs ++ sym is j ∷ []) in
    subst (λ (ys : List T). GrowsBy (λ n. Any (λ y. S y n) ys) old next) (sym cut) (λ n. (
      λ h. elim ((here n).0 h) [
        | inl c ↦ elim ((front n).0 c) [ inl a ↦ inl a | inr b ↦ inr (any_front (λ y. S y n) (take i xs) x b) ]
        | inr s ↦ inr (any_last (λ y. S y n) (take i xs) x s)
      ],
      λ h. elim h [
        | inl a ↦ (here n).1 (inl ((front n).1 (inl a)))
        | inr b ↦ elim (any_either (λ y. S y n) (take i xs) x b) [
          | inl c ↦ (here n).1 (inl ((front n).1 (inr c)))
          | inr s ↦ (here n).1 (inr s)
        ]
      ],
    ))

-- the same, of the element at a place
pub grows_at : {T : Type 0} (S : T → ℕ → Type 0) (xs : List T) (i : ℕ) (d : T) (old now next : List ℕ) → i < length xs
    → GrowsBy (λ n. Any (λ y. S y n) (take i xs)) old now → GrowsBy (S (get_or xs i d)) now next → GrowsBy (λ n. Any (λ y. S y n) (take (i + 1) xs)) old next
grows_at S xs i d old now next lt front here = grows_more S xs i (get_or xs i d) old now next lt (get_or_default xs i d (get_or xs i d) lt) front here

pub any_none : {T : Type 0} (P : T → Type 0) (xs : List T) → Any P (take 0 xs) → ⊥
any_none P xs a = omega (arith, a.2)
