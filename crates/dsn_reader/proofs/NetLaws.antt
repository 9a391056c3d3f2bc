-- Nets that are put behind others, and their numbers.
use Rattle.std.proofs.Common.{◌≡◌, ℕ, ◌≤◌, nat_lt, Bool, true, false, cond, List, [], ◌∷◌, ◌++◌, length, Option, Some, Ok, Err, refl, sym, ap, subst, ◌∙◌, arith, inl, inr, le_refl}
use Rattle.std.proofs.lemmas.List.{length-append}
use Rattle.std.proofs.lemmas.Bool.{ltb-true, ltb-false, le-ltb, lt-ltb}
use Rattle.dsn_lists.specs.declared.faults.DesignFault.{DesignFault}
use Rattle.dsn_lists.specs.declared.faults.DesignKind.TheVariants as kind
use Rattle.dsn_lists.specs.Results.{Read, wrong}
use Rattle.dsn_lists.specs.Words.{mark}
use Rattle.dsn_lists.specs.Names.{is_among, place_of}
use Rattle.dsn_lists.specs.Lists.{told}
use Rattle.dsn_lists.proofs.Firsts.{made, failed, ok_is, guard_ok, guard_err}
use Rattle.dsn_lists.proofs.Growing.{Grows, grows_same, grows_then, grows_one, there, not_there, put_there}
use Rattle.dsn_reader.specs.Wirings.{Netted, netted, numbered, net_number}
use Rattle.dsn_reader.specs.EndLists.{with_names, IsNetTooMany}

-- ---- nets that are put behind others

pub grows_with : (names a : List (List ℕ)) → Grows a (with_names a names)
grows_with [] a = grows_same a
grows_with (name ∷ names) a =
    let one = cond (is_among name a) a (a ++ name ∷ []) in
    grows_then a one (with_names one names) (grows_one a name (is_among name a)) (grows_with names one)

pub with-append : (xs ys a : List (List ℕ)) → with_names a (xs ++ ys) ≡ with_names (with_names a xs) ys
with-append [] ys a = refl
with-append (x ∷ xs) ys a = with-append xs ys (cond (is_among x a) a (a ++ x ∷ []))

long_one : (a : List (List ℕ)) (name : List ℕ) (t : Bool) → length a ≤ length (cond t a (a ++ name ∷ []))
long_one a name true = le_refl (length a)
long_one a name false = let sum = length-append a (name ∷ []) in omega (arith, sum)

pub long_with : (names a : List (List ℕ)) → length a ≤ length (with_names a names)
long_with [] a = le_refl (length a)
long_with (name ∷ names) a =
    let one = cond (is_among name a) a (a ++ name ∷ []) in
    let first = long_one a name (is_among name a) in
    let more = long_with names one in
    omega (arith, first, more)

-- ---- the number of a net

abbrev named : List (List ℕ) → List ℕ → List (List ℕ)
named nets text = with_names nets (text ∷ [])

-- what is read of a name that is new
abbrev new_net : List (List ℕ) → ℕ → List ℕ → Read (Netted ℕ)
new_net nets a text = cond (nat_lt 99999 (length nets)) (wrong kind.Large a) (made (netted (nets ++ text ∷ []) (length nets)))

abbrev IsNumbered : List (List ℕ) → List ℕ → Netted ℕ → Type 0
IsNumbered nets text y = (y.nets ≡ named nets text) × (place_of y.nets text ≡ Some y.it) × (length y.nets ≤ 100000)

pub number_found : (nets : List (List ℕ)) (a : ℕ) (text : List ℕ) (y : Netted ℕ) → length nets ≤ 100000 → net_number nets (mark a text) ≡ Ok y → IsNumbered nets text y
unfolding net_number
number_found nets a text y few e = by (is_among text nets) refl
  where
    by : (t : Bool) → is_among text nets ≡ t → IsNumbered nets text y
    by true is =
        let p = there nets text is in
        let same = ok_is (netted nets p.0) y (ap (λ (o : Option ℕ). numbered nets (mark a text) o) (sym p.1) ∙ e) in
        subst (IsNumbered nets text) same (rw is refl, p.1, few)
    by false is =
        let read : new_net nets a text ≡ Ok y = ap (λ (o : Option ℕ). numbered nets (mark a text) o) (sym (not_there nets text is)) ∙ e in
        let g = guard_ok (nat_lt 99999 (length nets)) (told kind.Large a) (made (netted (nets ++ text ∷ []) (length nets))) y read in
        let same = ok_is (netted (nets ++ text ∷ []) (length nets)) y g.1 in
        let low = ltb-false 99999 (length nets) g.0 in
        let sum = length-append nets (text ∷ []) in
        subst (IsNumbered nets text) same (rw is refl, put_there nets text is, omega (arith, low, sum))

some_is : (a b : ℕ) → Some a ≡ Some b → a ≡ b
some_is a b e = cc

pub number_again : (nets final : List (List ℕ)) (a : ℕ) (text : List ℕ) (n : ℕ) → Grows (named nets text) final → length (named nets text) ≤ 100000 → place_of final text ≡ Some n
    → net_number nets (mark a text) ≡ Ok (netted (named nets text) n)
unfolding net_number
number_again nets final a text n grows few is = by (is_among text nets) refl
  where
    by : (t : Bool) → is_among text nets ≡ t → numbered nets (mark a text) (place_of nets text) ≡ Ok (netted (named nets text) n)
    by true stands =
        let p = there nets text stands in
        let old : named nets text ≡ nets = rw stands refl in
        let same = some_is p.0 n (sym (grows text p.0 (subst (λ (xs : List (List ℕ)). place_of xs text ≡ Some p.0) (sym old) p.1)) ∙ is) in
        ap (λ (o : Option ℕ). numbered nets (mark a text) o) p.1 ∙ ap (λ (m : ℕ). made (netted nets m)) same ∙ ap (λ (xs : List (List ℕ)). made (netted xs n)) (sym old)
    by false stands =
        let new : named nets text ≡ nets ++ text ∷ [] = rw stands refl in
        let same = some_is (length nets) n (sym (grows text (length nets) (subst (λ (xs : List (List ℕ)). place_of xs text ≡ Some (length nets)) (sym new) (put_there nets text stands))) ∙ is) in
        let sum = length-append nets (text ∷ []) in
        let many = subst (λ (xs : List (List ℕ)). length xs ≤ 100000) new few in
        let low : nat_lt 99999 (length nets) ≡ false = le-ltb 99999 (length nets) (omega (arith, sum, many)) in
        ap (λ (o : Option ℕ). numbered nets (mark a text) o) (not_there nets text stands)
        ∙ ap (λ (b : Bool). cond b (wrong kind.Large a) (made (netted (nets ++ text ∷ []) (length nets)))) low
        ∙ ap (λ (m : ℕ). made (netted (nets ++ text ∷ []) m)) same
        ∙ ap (λ (xs : List (List ℕ)). made (netted xs n)) (sym new)

pub number_fault : (nets : List (List ℕ)) (a : ℕ) (text : List ℕ) (e : DesignFault) → net_number nets (mark a text) ≡ Err e → IsNetTooMany nets text × (e ≡ told kind.Large a)
unfolding net_number
number_fault nets a text e h = by (is_among text nets) refl
  where
    by : (t : Bool) → is_among text nets ≡ t → IsNetTooMany nets text × (e ≡ told kind.Large a)
    by true is = let p = there nets text is in absurd (no_fault p.0 (ap (λ (o : Option ℕ). numbered nets (mark a text) o) (sym p.1) ∙ h))
      where
        no_fault : (n : ℕ) → made (netted nets n) ≡ Err e → ⊥
        no_fault n e = absurd cc
    by false is =
        let read : new_net nets a text ≡ Err e = ap (λ (o : Option ℕ). numbered nets (mark a text) o) (sym (not_there nets text is)) ∙ h in
        elim (guard_err (nat_lt 99999 (length nets)) (told kind.Large a) (made (netted (nets ++ text ∷ []) (length nets))) e read) [
          | inl full ↦ ((is, let many = ltb-true 99999 (length nets) full.0 in omega (arith, many)), full.1)
          | inr quota ↦ absurd cc
        ]

pub number_fault_again : (nets : List (List ℕ)) (a : ℕ) (text : List ℕ) (e : DesignFault) → IsNetTooMany nets text → e ≡ told kind.Large a → net_number nets (mark a text) ≡ Err e
unfolding net_number
number_fault_again nets a text e full is =
    let many = full.1 in
    let high : nat_lt 99999 (length nets) ≡ true = lt-ltb 99999 (length nets) (omega (arith, many)) in
    ap (λ (o : Option ℕ). numbered nets (mark a text) o) (not_there nets text full.0)
    ∙ ap (λ (b : Bool). cond b (wrong kind.Large a) (made (netted (nets ++ text ∷ []) (length nets)))) high
    ∙ ap failed (sym is)
