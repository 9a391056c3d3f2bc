-- The numbers that a walk goes by, and what stands at them.
use Rattle.std.proofs.Common.{◌≡◌, ℕ, zero, suc, ◌+◌, ◌<◌, ◌≤◌, List, [], ◌∷◌, ◌++◌, length, get_or, drop, refl, sym, ap, subst, ◌∙◌, arith, inl, inr, Bool, true, false, length-append, append_assoc}
use Rattle.std.specs.Prelude.{Option, Some, None, IsSome, not, ◌==◌}
use Rattle.std.specs.List.{AllByRecursion, filter}
use Rattle.std.proofs.lemmas.Bool.{eqb-true, eq-eqb, ne_eqb}
use Rattle.std.proofs.lemmas.List.{append-nil, drop_all}
use Rattle.std.proofs.lemmas.List.Elements.{filter-append}
use Rattle.slab.specs.Slab.{Slab, get}
use Rattle.number_slots.specs.Slots.{is_among, without, at_numbers, there, IsAt, IsThere, IsRisingFrom}
use Rattle.number_slots.specs.Places.{slot_of, slots_of, is_taken, numbers_of, IsHeld, IsKept, IsWalk}
use Rattle.number_slots.proofs.ByNumber.{by_bool, left_at, at_least, at_past, there_rises, there_join}
use Rattle.number_slots.proofs.Kept.{as_many, at_place, found_at}

-- ---- one number

-- nothing stands at the number
pub none_here : {T : Type 0} (n : ℕ) (xs : List (ℕ × T)) → (IsThere xs n → ⊥) → filter (λ x. x.0 == n) xs ≡ []
none_here n [] none = refl
none_here n (y ∷ ys) none = rw (ne_eqb y.0 n (λ e. none (y.1, inl (e, refl)))) (none_here n ys (λ t. none (t.0, inr t.1)))

-- one thing does
pub one_here : {T : Type 0} (k n : ℕ) (xs : List (ℕ × T)) (x : T) → IsRisingFrom k xs → IsAt xs n x → filter (λ y. y.0 == n) xs ≡ (n, x) ∷ []
one_here k n [] x r h = absurd h
one_here k n (y ∷ ys) x r (inl h) =
    let e : (y.0 == n) ≡ true = eq-eqb y.0 n h.0 in
    let rest = none_here n ys (λ t. let le = at_least (y.0 + 1) ys n t.0 r.1 t.1 in absurd (omega (arith, h.0))) in
    rw e (rw rest (λ i. (h.0 i, h.1 i) ∷ []))
one_here k n (y ∷ ys) x r (inr h) =
    let le = at_least (y.0 + 1) ys n x r.1 h in
    let e : (y.0 == n) ≡ false = ne_eqb y.0 n (λ q. absurd (omega arith)) in
    rw e (one_here (y.0 + 1) n ys x r.1 h)

-- a walk passes a number at which nothing stands
pub pass_here : {T : Type 0} (n : ℕ) (ns : List ℕ) (xs : List (ℕ × T)) → (IsThere xs n → ⊥) → at_numbers (n ∷ ns) xs ≡ at_numbers ns xs
pass_here n ns xs none = ap (λ ys. ys ++ at_numbers ns xs) (none_here n xs none)

-- and finds what stands at it
pub find_here : {T : Type 0} (n : ℕ) (ns : List ℕ) (xs : List (ℕ × T)) (x : T) → IsRisingFrom 1 xs → IsAt xs n x → at_numbers (n ∷ ns) xs ≡ (n, x) ∷ at_numbers ns xs
find_here n ns xs x r h = ap (λ ys. ys ++ at_numbers ns xs) (one_here 1 n xs x r h)

-- the same at a place of the numbers
pub walk_pass : {T : Type 0} (ns : List ℕ) (k : ℕ) (xs : List (ℕ × T)) → k < length ns → (IsThere xs (get_or ns k 0) → ⊥) → at_numbers (drop k ns) xs ≡ at_numbers (drop (k + 1) ns) xs
walk_pass ns k xs lt none = ap (λ (ms : List ℕ). at_numbers ms xs) (left_at ns k 0 lt) ∙ pass_here (get_or ns k 0) (drop (k + 1) ns) xs none

pub walk_find : {T : Type 0} (ns : List ℕ) (k : ℕ) (xs : List (ℕ × T)) (x : T) → k < length ns → IsRisingFrom 1 xs → IsAt xs (get_or ns k 0) x → at_numbers (drop k ns) xs ≡ (get_or ns k 0, x) ∷ at_numbers (drop (k + 1) ns) xs
walk_find ns k xs x lt r h = ap (λ (ms : List ℕ). at_numbers ms xs) (left_at ns k 0 lt) ∙ find_here (get_or ns k 0) (drop (k + 1) ns) xs x r h

-- and none is left at the end
pub walk_end : {T : Type 0} (ns : List ℕ) (k : ℕ) (xs : List (ℕ × T)) → length ns ≤ k → at_numbers (drop k ns) xs ≡ []
walk_end ns k xs past = ap (λ (ms : List ℕ). at_numbers ms xs) (drop_all k ns past)

-- ---- things that are taken away

filter_swap : {T : Type 0} (p q : T → Bool) (xs : List T) → filter p (filter q xs) ≡ filter q (filter p xs)
filter_swap p q [] = refl
filter_swap p q (x ∷ xs) =
    let more = filter_swap p q xs in
    by_bool (p x) (filter p (filter q (x ∷ xs)) ≡ filter q (filter p (x ∷ xs)))
    (λ t. by_bool (q x) (filter p (filter q (x ∷ xs)) ≡ filter q (filter p (x ∷ xs))) (λ u. rw (t, u) (rw t (ap (λ ys. x ∷ ys) more))) (λ g. rw (t, g) more))
    (λ f. by_bool (q x) (filter p (filter q (x ∷ xs)) ≡ filter q (filter p (x ∷ xs))) (λ u. rw (f, u) (rw f more)) (λ g. rw (f, g) more))

-- what stands at the numbers, without some
pub at_left_over : {T : Type 0} (ids ns : List ℕ) (xs : List (ℕ × T)) → at_numbers ns (without ids xs) ≡ without ids (at_numbers ns xs)
at_left_over ids [] xs = refl
at_left_over ids (n ∷ ns) xs =
    let here = filter_swap (λ x. x.0 == n) (λ x. not (is_among x.0 ids)) xs in
    let more = at_left_over ids ns xs in
    (λ i. here i ++ more i) ∙ sym (filter-append (λ x. not (is_among x.0 ids)) (filter (λ x. x.0 == n) xs) (at_numbers ns xs))

-- a walk over what is left goes by the same numbers
pub still_all : {T : Type 0} (ids ns : List ℕ) (xs ys : List (ℕ × T)) → ys ≡ without ids xs → at_numbers ns xs ≡ xs → at_numbers ns ys ≡ ys
still_all ids ns xs ys left all = subst (λ zs. at_numbers ns zs ≡ zs) (sym left) (at_left_over ids ns xs ∙ ap (without ids) all)

-- ---- numbers that are left out

-- where nothing stands at them
pub at_kept : {T : Type 0} (t : ℕ → Bool) (ns : List ℕ) (xs : List (ℕ × T)) → ((n : ℕ) → t n ≡ false → IsThere xs n → ⊥) → at_numbers (filter t ns) xs ≡ at_numbers ns xs
at_kept t [] xs none = refl
at_kept t (n ∷ ns) xs none =
    by_bool (t n) (at_numbers (filter t (n ∷ ns)) xs ≡ at_numbers (n ∷ ns) xs)
    (λ e. rw e (ap (λ ys. filter (λ x. x.0 == n) xs ++ ys) (at_kept t ns xs none)))
    (λ f. rw f (at_kept t ns xs none ∙ sym (pass_here n ns xs (none n f))))

some_here : {T : Type 0} (n : ℕ) (xs : List (ℕ × T)) (x : T) → IsAt xs n x → 1 ≤ length (filter (λ y. y.0 == n) xs)
some_here n [] x h = absurd h
some_here n (y ∷ ys) x (inl h) = let e : (y.0 == n) ≡ true = eq-eqb y.0 n h.0 in rw e (omega arith)
some_here n (y ∷ ys) x (inr h) =
    let more = some_here n ys x h in
    by_bool (y.0 == n) (1 ≤ length (filter (λ z. z.0 == n) (y ∷ ys))) (λ t. rw t (omega arith)) (λ f. rw f more)

-- numbers at which something stands are no more than that
pub at_most : {T : Type 0} (t : ℕ → Bool) (ns : List ℕ) (xs : List (ℕ × T)) → ((n : ℕ) → t n ≡ true → IsThere xs n) → length (filter t ns) ≤ length (at_numbers (filter t ns) xs)
at_most t [] xs some = omega arith
at_most t (n ∷ ns) xs some =
    let more = at_most t ns xs some in
    by_bool (t n) (length (filter t (n ∷ ns)) ≤ length (at_numbers (filter t (n ∷ ns)) xs))
    (λ e. let h = some n e in
    let one = some_here n xs h.0 h.1 in
    let sum = length-append (filter (λ y. y.0 == n) xs) (at_numbers (filter t ns) xs) in
    rw e (omega (arith, one, sum, more)))
    (λ f. rw f more)

all_left : (t : ℕ → Bool) (m : ℕ) (ns : List ℕ) → AllByRecursion (λ n. n < m) ns → AllByRecursion (λ n. n < m) (filter t ns)
all_left t m [] all = tt
all_left t m (n ∷ ns) all =
    let more = all_left t m ns all.1 in
    by_bool (t n) (AllByRecursion (λ k. k < m) (filter t (n ∷ ns))) (λ e. rw e (all.0, more)) (λ f. rw f more)

-- ---- what a number's place says

-- nothing stands where the place is empty
taken_none : {T : Type 0} (s : Slab T) (places : List ℕ) (n : ℕ) → is_taken places n ≡ false → IsThere (there 1 (slots_of s places)) n → ⊥
taken_none s places zero e t = let le = at_least 1 (there 1 (slots_of s places)) 0 t.0 (there_rises 1 (slots_of s places)) t.1 in absurd (omega arith)
taken_none s places (suc i) e t =
    let k = at_place s places (suc i) t.0 t.1 in
    let same : k.0 ≡ i = omega (arith, k.1) in
    let here : slot_of s (get_or places i 0) ≡ Some t.0 = subst (λ (j : ℕ). slot_of s (get_or places j 0) ≡ Some t.0) same k.3 in
    by_bool (get_or places i 0 == 0) ⊥
    (λ z. let none : get_or places i 0 ≡ 0 = eqb-true (get_or places i 0) 0 z in let wrong : slot_of s 0 ≡ Some t.0 = subst (λ p. slot_of s p ≡ Some t.0) none here in absurd cc)
    (λ f. let wrong : not (get_or places i 0 == 0) ≡ true = rw f refl in absurd cc)

held_some : {T : Type 0} (o : Option T) → IsSome o → (x : T) × (o ≡ Some x)
held_some None h = absurd cc
held_some (Some x) h = (x, refl)

held_at : {T : Type 0} (s : Slab T) (places : List ℕ) (i : ℕ) → AllByRecursion (IsHeld s) places → (get_or places i 0 ≡ 0 → ⊥) → (key : ℕ) × (i < length places) × (get_or places i 0 ≡ suc key) × IsSome (get s key)
held_at s [] i all some = absurd (some refl)
held_at s (zero ∷ rest) zero all some = absurd (some refl)
held_at s (suc key ∷ rest) zero all some = (key, omega arith, refl, all.0)
held_at s (p ∷ rest) (suc i) all some = let more = held_at s rest i all.1 some in (more.0, omega (arith, more.1), more.2, more.3)

-- and something where it isn't
taken_some : {T : Type 0} (s : Slab T) (places : List ℕ) (n : ℕ) → IsKept places s → is_taken places n ≡ true → IsThere (there 1 (slots_of s places)) n
taken_some s places zero kept e = absurd cc
taken_some s places (suc i) kept e =
    let h = held_at s places i kept.held (λ z. let t : (get_or places i 0 == 0) ≡ true = eq-eqb (get_or places i 0) 0 z in let wrong : not (get_or places i 0 == 0) ≡ false = rw t refl in absurd cc) in
    let x = held_some (get s h.0) h.3 in
    (x.0, found_at s places (suc i) i h.0 x.0 (omega arith) h.1 h.2 x.1)

-- a walk by the numbers that are left
pub squeezed : {T : Type 0} (s : Slab T) (places ns : List ℕ) → IsKept places s → at_numbers ns (there 1 (slots_of s places)) ≡ there 1 (slots_of s places) → AllByRecursion (λ n. n < length places + 1) ns → IsWalk (filter (is_taken places) ns) places s
squeezed s places ns kept all given =
    let xs = there 1 (slots_of s places) in
    let left : at_numbers (filter (is_taken places) ns) xs ≡ xs = at_kept (is_taken places) ns xs (λ n f. taken_none s places n f) ∙ all in
    record {
      all = left;
      given = all_left (is_taken places) (length places + 1) ns given;
      few = let most = at_most (is_taken places) ns xs (λ n t. taken_some s places n kept t) in let many = ap length left in omega (arith, most, many, kept.count);
    }

-- ---- things that are put

low_one : {T : Type 0} (n : ℕ) (xs ys : List (ℕ × T)) → filter (λ x. x.0 == n) ys ≡ [] → filter (λ x. x.0 == n) (xs ++ ys) ≡ filter (λ x. x.0 == n) xs
low_one n xs ys none = filter-append (λ x. x.0 == n) xs ys ∙ ap (λ zs. filter (λ x. x.0 == n) xs ++ zs) none ∙ append-nil (filter (λ x. x.0 == n) xs)

high_one : {T : Type 0} (n : ℕ) (xs ys : List (ℕ × T)) → filter (λ x. x.0 == n) xs ≡ [] → filter (λ x. x.0 == n) (xs ++ ys) ≡ filter (λ x. x.0 == n) ys
high_one n xs ys none = filter-append (λ x. x.0 == n) xs ys ∙ ap (λ zs. zs ++ filter (λ x. x.0 == n) ys) none

low_joined : {T : Type 0} (m : ℕ) (ns : List ℕ) (xs ys : List (ℕ × T)) → AllByRecursion (λ n. n < m) ns → IsRisingFrom m ys → at_numbers ns (xs ++ ys) ≡ at_numbers ns xs
low_joined m [] xs ys all r = refl
low_joined m (n ∷ ns) xs ys all r =
    let none = none_here n ys (λ t. let le = at_least m ys n t.0 r t.1 in absurd (omega (arith, all.0))) in
    let here = low_one n xs ys none in
    let more = low_joined m ns xs ys all.1 r in
    (λ i. here i ++ more i)

high_joined : {T : Type 0} (m : ℕ) (zs xs ys : List (ℕ × T)) → IsRisingFrom m zs → ((n : ℕ) (x : T) → IsAt xs n x → n < m) → at_numbers (numbers_of zs) (xs ++ ys) ≡ at_numbers (numbers_of zs) ys
high_joined m [] xs ys r below = refl
high_joined m (z ∷ zs) xs ys r below =
    let none = none_here z.0 xs (λ t. let lt = below z.0 t.0 t.1 in absurd (omega (arith, r.0))) in
    let here = high_one z.0 xs ys none in
    let more = high_joined (z.0 + 1) zs xs ys r.1 (λ n x h. let lt = below n x h in omega (arith, r.0)) in
    (λ i. here i ++ more i)

-- the numbers of things lead to them
own_numbers : {T : Type 0} (m : ℕ) (xs : List (ℕ × T)) → IsRisingFrom m xs → at_numbers (numbers_of xs) xs ≡ xs
own_numbers m [] r = refl
own_numbers m (x ∷ xs) r =
    let here = one_here m x.0 (x ∷ xs) x.1 r (inl (refl, refl)) in
    let past = high_joined (x.0 + 1) xs (x ∷ []) xs r.1 (λ n y h. elim h [ inl f ↦ omega (arith, f.0) | inr g ↦ absurd g ]) in
    let more = past ∙ own_numbers (x.0 + 1) xs r.1 in
    (λ i. here i ++ more i)

front_numbers : {T : Type 0} (ns ms : List ℕ) (xs : List (ℕ × T)) → at_numbers (ns ++ ms) xs ≡ at_numbers ns xs ++ at_numbers ms xs
front_numbers [] ms xs = refl
front_numbers (n ∷ ns) ms xs = ap (λ ys. filter (λ x. x.0 == n) xs ++ ys) (front_numbers ns ms xs) ∙ sym (append_assoc (filter (λ x. x.0 == n) xs) (at_numbers ns xs) (at_numbers ms xs))

more_at : {T : Type 0} (m : ℕ) (ns : List ℕ) (xs ys : List (ℕ × T)) → at_numbers ns xs ≡ xs → AllByRecursion (λ n. n < m) ns → IsRisingFrom m ys → ((n : ℕ) (x : T) → IsAt xs n x → n < m) → at_numbers (ns ++ numbers_of ys) (xs ++ ys) ≡ xs ++ ys
more_at m ns xs ys all given r below =
    let front : at_numbers ns (xs ++ ys) ≡ xs = low_joined m ns xs ys given r ∙ all in
    let back : at_numbers (numbers_of ys) (xs ++ ys) ≡ ys = high_joined m ys xs ys r below ∙ own_numbers m ys r in
    front_numbers ns (numbers_of ys) (xs ++ ys) ∙ (λ i. front i ++ back i)

all_more : (m k : ℕ) (ns ms : List ℕ) → m ≤ k → AllByRecursion (λ n. n < m) ns → AllByRecursion (λ n. n < k) ms → AllByRecursion (λ n. n < k) (ns ++ ms)
all_more m k [] ms le all more = more
all_more m k (n ∷ ns) ms le all more = (omega (arith, all.0), all_more m k ns ms le all.1 more)

all_new : {T : Type 0} (m : ℕ) (xs : List (Option T)) → AllByRecursion (λ n. n < m + length xs) (numbers_of (there m xs))
all_new m [] = tt
all_new m (None ∷ xs) = subst (λ (k : ℕ). AllByRecursion (λ n. n < k) (numbers_of (there (m + 1) xs))) (omega arith) (all_new (m + 1) xs)
all_new m (Some x ∷ xs) = (omega arith, subst (λ (k : ℕ). AllByRecursion (λ n. n < k) (numbers_of (there (m + 1) xs))) (omega arith) (all_new (m + 1) xs))

as_many_numbers : {T : Type 0} (xs : List (ℕ × T)) → length (numbers_of xs) ≡ length xs
as_many_numbers [] = refl
as_many_numbers (x ∷ xs) = ap suc (as_many_numbers xs)

-- a walk by the numbers of what was put too
pub noted : {T : Type 0} (s t : Slab T) (before places ns : List ℕ) (made : List (Option T)) → IsKept before s → IsKept places t → slots_of t places ≡ slots_of s before ++ made → IsWalk ns before s → IsWalk (ns ++ numbers_of (there (length before + 1) made)) places t
noted s t before places ns made old new put walk =
    let xs = there 1 (slots_of s before) in
    let ys = there (length before + 1) made in
    let many = as_many s before in
    let first : 1 + length (slots_of s before) ≡ length before + 1 = omega (arith, many) in
    let all : there 1 (slots_of t places) ≡ xs ++ ys = ap (λ zs. there 1 zs) put ∙ there_join 1 (slots_of s before) made ∙ ap (λ (m : ℕ). xs ++ there m made) first in
    let long : length places ≡ length before + length made = let same = ap length put in omega (arith, same, as_many t places, many, length-append (slots_of s before) made) in
    let at = more_at (length before + 1) ns xs ys walk.all walk.given (there_rises (length before + 1) made) (λ n x h. let lt = at_past 1 (slots_of s before) n x h in omega (arith, many)) in
    record {
      all = subst (λ zs. at_numbers (ns ++ numbers_of ys) zs ≡ zs) (sym all) at;
      given = all_more (length before + 1) (length places + 1) ns (numbers_of ys) (omega (arith, long)) walk.given (subst (λ (k : ℕ). AllByRecursion (λ n. n < k) (numbers_of ys)) (omega (arith, long)) (all_new (length before + 1) made));
      few =
          let sum = ap length all ∙ length-append xs ys in
          let more = length-append ns (numbers_of ys) in
          let these = as_many_numbers ys in omega (arith, sum, more, these, old.count, new.count, walk.few);
    }
