-- Walks over things in the order of their numbers.
use Rattle.std.proofs.Common.{◌≡◌, ℕ, zero, suc, ◌+◌, ◌<◌, ◌≤◌, List, [], ◌∷◌, ◌++◌, length, take, drop, get_or, refl, sym, ap, subst, ◌∙◌, arith, inl, inr, true}
use Rattle.std.specs.Prelude.{◌⊎◌, Some, slice_get, nat_lt, if◌then◌else◌}
use Rattle.std.specs.List.Sorted.{IsStrictlyIncreasing}
use Rattle.std.proofs.lemmas.List.{take_more, take_all, get_or_append_left, get_or_push, length_push}
use Rattle.std.proofs.lemmas.Option.{slice_get_within, get_or_from_slice_get}
use Rattle.std.proofs.lemmas.Bool.{lt-ltb}
use Rattle.number_slots.specs.Slots.{is_among, IsAt, IsRisingFrom}
use Rattle.number_slots.proofs.ByNumber.{at_either, at_least, at_once, by_lt, among_cases, among_first, among_more}
use Rattle.boundaries.specs.Boundaries.{Boundary}
use Rattle.boundaries.specs.Costs.{fences_most}
use Rattle.boundaries.proofs.Segments.{left_is}

-- the things so far, and the next one
pub taken_on : {T : Type 0} (xs : List T) (i : ℕ) (x : T) → slice_get xs i ≡ Some x → take (i + 1) xs ≡ take i xs ++ x ∷ []
taken_on xs i x e = take_more xs i x (slice_get_within xs i x e) ∙ ap (λ y. take i xs ++ y ∷ []) (get_or_from_slice_get xs i x x e)

-- what stands at a place stands under its number
pub read_at : {T : Type 0} (xs : List (ℕ × T)) (i : ℕ) (x : ℕ × T) → slice_get xs i ≡ Some x → IsAt xs x.0 x.1
read_at [] i x e = absurd (cc)
read_at (y ∷ ys) zero x e = let same : y ≡ x = cc in inl (ap (λ (z : ℕ × _). z.0) same, ap (λ (z : ℕ × _). z.1) same)
read_at (y ∷ ys) (suc i) x e = inr (read_at ys i x e)

-- what stands among the first stands there
pub at_taken : {T : Type 0} (xs : List (ℕ × T)) (i n : ℕ) (x : T) → IsAt (take i xs) n x → IsAt xs n x
at_taken xs zero n x h = absurd h
at_taken [] (suc i) n x h = absurd h
at_taken (y ∷ ys) (suc i) n x (inl h) = inl h
at_taken (y ∷ ys) (suc i) n x (inr h) = inr (at_taken ys i n x h)

-- what has a lower number than that at a place stands before it
pub at_before : {T : Type 0} (k : ℕ) (xs : List (ℕ × T)) (i : ℕ) (x : ℕ × T) (n : ℕ) (y : T) → IsRisingFrom k xs → slice_get xs i ≡ Some x → n < x.0 → IsAt xs n y → IsAt (take i xs) n y
at_before k [] i x n y r e lt h = absurd h
at_before k (z ∷ zs) zero x n y r e lt (inl h) = let same : z ≡ x = cc in let e : z.0 ≡ x.0 = ap (λ (w : ℕ × _). w.0) same in absurd (omega (arith, h.0, e))
at_before k (z ∷ zs) zero x n y r e lt (inr h) =
    let same : z ≡ x = cc in let f : z.0 ≡ x.0 = ap (λ (w : ℕ × _). w.0) same in
    let le = at_least (z.0 + 1) zs n y r.1 h in absurd (omega (arith, le, f))
at_before k (z ∷ zs) (suc i) x n y r e lt (inl h) = inl h
at_before k (z ∷ zs) (suc i) x n y r e lt (inr h) = inr (at_before (z.0 + 1) zs i x n y r.1 e lt h)

-- what stands before a place has a lower number
pub before_at : {T : Type 0} (k : ℕ) (xs : List (ℕ × T)) (i : ℕ) (x : ℕ × T) (n : ℕ) (y : T) → IsRisingFrom k xs → slice_get xs i ≡ Some x → IsAt (take i xs) n y → n < x.0
before_at k [] i x n y r e h = absurd (cc)
before_at k (z ∷ zs) zero x n y r e h = absurd h
before_at k (z ∷ zs) (suc i) x n y r e (inl h) = let le = at_least (z.0 + 1) zs x.0 x.1 r.1 (read_at zs i x e) in omega (arith, le, h.0)
before_at k (z ∷ zs) (suc i) x n y r e (inr h) = before_at (z.0 + 1) zs i x n y r.1 e h

-- ---- what is looked for

-- none of these is what is looked for
abbrev pub NoneIs : {T : Type 0} → (ℕ → T → Type 0) → List (ℕ × T) → Type 0
NoneIs {T} Q xs = (n : ℕ) (x : T) → IsAt xs n x → Q n x → ⊥

-- nor is the next one
pub none_on : {T : Type 0} (Q : ℕ → T → Type 0) (xs : List (ℕ × T)) (i : ℕ) (x : ℕ × T) → slice_get xs i ≡ Some x → NoneIs Q (take i xs) → (Q x.0 x.1 → ⊥) → NoneIs Q (take (i + 1) xs)
none_on {T} Q xs i x e none here n y h q =
    let split : IsAt (take i xs ++ x ∷ []) n y = subst (λ (ys : List (ℕ × T)). IsAt ys n y) (taken_on xs i x e) h in
    elim (at_either (take i xs) (x ∷ []) n y split) [
      | inl f ↦ none n y f q
      | inr g ↦ elim g [ inl s ↦ here (subst (λ (z : ℕ × T). Q z.0 z.1) (λ j. (sym s.0 j, sym s.1 j)) q) | inr s ↦ absurd s ]
    ]

-- a walk that ended saw all
pub none_all : {T : Type 0} (Q : ℕ → T → Type 0) (xs : List (ℕ × T)) (i : ℕ) → length xs ≤ i → NoneIs Q (take i xs) → NoneIs Q xs
none_all {T} Q xs i le none = subst (NoneIs {T = T} Q) (take_all i xs le) none

-- where none before a place is looked for, what stands there is the least
pub least_at : {T : Type 0} (k : ℕ) (Q : ℕ → T → Type 0) (xs : List (ℕ × T)) (i : ℕ) (x : ℕ × T) → IsRisingFrom k xs → slice_get xs i ≡ Some x → NoneIs Q (take i xs) → (n : ℕ) (y : T) → IsAt xs n y → Q n y → x.0 ≤ n
least_at k Q xs i x r e none n y h q = by_lt n x.0 (x.0 ≤ n) (λ lt. absurd (none n y (at_before k xs i x n y r e lt h) q)) (λ le. le)

-- ---- steps

-- the steps that are kept for what is left are those for the next boundary and those for the rest
pub most_left : (most : Boundary → ℕ) (above : ℕ) (xs : List (ℕ × Boundary)) (i : ℕ) (x : ℕ × Boundary) → slice_get xs i ≡ Some x → fences_most most above (drop i xs) ≡ (if nat_lt above x.0 then most x.1 else 0) + fences_most most above (drop (i + 1) xs)
most_left most above xs i x e = ap (fences_most most above) (left_is xs i x e)

-- the next boundary is tested
pub most_tested : (most : Boundary → ℕ) (above : ℕ) (xs : List (ℕ × Boundary)) (i : ℕ) (x : ℕ × Boundary) → slice_get xs i ≡ Some x → above < x.0 → most x.1 + fences_most most above (drop (i + 1) xs) ≡ fences_most most above (drop i xs)
most_tested most above xs i x e past =
    let split = most_left most above xs i x e in
    let t : nat_lt above x.0 ≡ true = lt-ltb above x.0 past in sym (rw t at split)

-- ---- lists of numbers

-- a number that stands at a place is among them
pub read_among : (ids : List ℕ) (k : ℕ) → k < length ids → is_among (get_or ids k 0) ids ≡ true
read_among [] k lt = absurd (omega arith)
read_among (n ∷ ids) zero lt = among_first n n ids refl
read_among (n ∷ ids) (suc k) lt = among_more (get_or ids k 0) n ids (read_among ids k (omega arith))

-- one more number is among them
pub among_pushed : (m n : ℕ) (ids : List ℕ) → (is_among n ids ≡ true) ⊎ (m ≡ n) → is_among n (ids ++ m ∷ []) ≡ true
among_pushed m n [] (inl h) = absurd (cc)
among_pushed m n [] (inr h) = among_first n m [] h
among_pushed m n (k ∷ ids) (inl h) = elim (among_cases n k ids h) [ inl f ↦ among_first n k (ids ++ m ∷ []) f | inr g ↦ among_more n k (ids ++ m ∷ []) (among_pushed m n ids (inl g)) ]
among_pushed m n (k ∷ ids) (inr h) = among_more n k (ids ++ m ∷ []) (among_pushed m n ids (inr h))

pub pushed_among : (m n : ℕ) (ids : List ℕ) → is_among n (ids ++ m ∷ []) ≡ true → (is_among n ids ≡ true) ⊎ (m ≡ n)
pushed_among m n [] h = elim (among_cases n m [] h) [ inl f ↦ inr f | inr g ↦ absurd (cc) ]
pushed_among m n (k ∷ ids) h = elim (among_cases n k (ids ++ m ∷ []) h) [
  | inl f ↦ inl (among_first n k ids f)
  | inr g ↦ elim (pushed_among m n ids g) [ inl e ↦ inl (among_more n k ids e) | inr e ↦ inr e ]
]

-- a greater number at the end of a rising list
pub rising_pushed : (ids : List ℕ) (m : ℕ) → IsStrictlyIncreasing ids → ((n : ℕ) → is_among n ids ≡ true → n < m) → IsStrictlyIncreasing (ids ++ m ∷ [])
rising_pushed ids m r below k lt =
    let long : length (ids ++ m ∷ []) ≡ length ids + 1 = length_push ids m in
    let inside : k < length ids = omega (arith, long, lt) in
    let here = get_or_append_left ids (m ∷ []) 0 k inside in
    by_lt (k + 1) (length ids) (get_or (ids ++ m ∷ []) k 0 < get_or (ids ++ m ∷ []) (k + 1) 0)
    (λ low. let next = get_or_append_left ids (m ∷ []) 0 (k + 1) low in let up = r k low in omega (arith, here, next, up))
    (λ past. let next = get_or_push ids m 0 (k + 1) (omega arith) in let up = below (get_or ids k 0) (read_among ids k inside) in omega (arith, here, next, up))

-- ---- what was found at a place

pub found_at : {T : Type 0} (xs : List (ℕ × T)) (i n : ℕ) (r : ℕ × T) (b : T) → slice_get xs i ≡ Some (n, b) → r ≡ get_or xs i r → IsAt xs n r.1
found_at {T} xs i n r b e is =
    let same : r ≡ (n, b) = is ∙ get_or_from_slice_get xs i (n, b) r e in
    subst (λ (y : T). IsAt xs n y) (ap (λ (z : ℕ × T). z.1) (sym same)) (read_at xs i (n, b) e)

pub found_only : {T : Type 0} (k : ℕ) (xs : List (ℕ × T)) (i n : ℕ) (r : ℕ × T) (b : T) → IsRisingFrom k xs → slice_get xs i ≡ Some (n, b) → r ≡ get_or xs i r → (c : T) → IsAt xs n c → c ≡ r.1
found_only k xs i n r b rising e is c h = at_once k xs n c r.1 rising h (found_at xs i n r b e is)

-- the next boundary is tested, whatever its number
pub most_of_all : (most : Boundary → ℕ) (xs : List (ℕ × Boundary)) (i : ℕ) (x : ℕ × Boundary) → IsRisingFrom 1 xs → slice_get xs i ≡ Some x → most x.1 + fences_most most 0 (drop (i + 1) xs) ≡ fences_most most 0 (drop i xs)
most_of_all most xs i x r e = let low = at_least 1 xs x.0 x.1 r (read_at xs i x e) in most_tested most 0 xs i x e (omega (arith, low))
