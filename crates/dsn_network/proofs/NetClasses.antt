-- The numbers that are worked out for nets are those of their classes, and no others are.
use Rattle.std.proofs.Common.{◌≡◌, ℕ, suc, ◌+◌, ◌<◌, List, [], ◌∷◌, ◌++◌, map, get_or, length, replicate, refl, sym, ap, subst, ◌∙◌, append_assoc, arith}
use Rattle.std.proofs.lemmas.List.{length-append, length-replicate}
use Rattle.dsn_lists.specs.declared.marks.Mark.{Mark}
use Rattle.dsn_lists.specs.Names.{place_of}
use Rattle.dsn_lists.specs.Lists.{AreFresh}
use Rattle.dsn_network.specs.declared.classes.Class.{Class}
use Rattle.dsn_network.specs.Networks.{in_class, named_in, classed}
use Rattle.dsn_network.specs.ClassOf.{AreClassesOf}
use Rattle.dsn_network.proofs.ClassNumbers.{same_length}
use Rattle.dsn_network.proofs.ClassLaws.{behind, behind_is, numbered_class, behind_class, number_at, number_behind}

-- what is worked out for a net alone
abbrev own_number : List Class → List ℕ → ℕ
own_number classes net = behind net 1 0 classes

are_numbers : (classes : List Class) (nets : List (List ℕ)) → AreClassesOf classes nets (map (own_number classes) nets)
are_numbers classes [] = refl
are_numbers classes (net ∷ nets) = (numbered_class net classes (own_number classes net) (behind_is net 0 classes), are_numbers classes nets)

numbers_are : (classes : List Class) (nets : List (List ℕ)) (ks : List ℕ) → AreClassesOf classes nets ks → ks ≡ map (own_number classes) nets
numbers_are classes [] ks h = h
numbers_are classes (net ∷ nets) [] h = absurd h
numbers_are classes (net ∷ nets) (k ∷ ks) h = λ i. sym (behind_class net classes k h.0) i ∷ numbers_are classes nets ks h.1 i

-- ---- one number for each net

length_named : (nets : List (List ℕ)) (k : ℕ) (cs : List ℕ) (ms : List Mark) → length (named_in nets k cs ms) ≡ length cs
unfolding named_in
length_named nets k cs [] = refl
length_named nets k cs (m ∷ ms) = length_named nets k (in_class cs k (place_of nets m.name)) ms ∙ same_length cs k (place_of nets m.name)

length_classed : (nets : List (List ℕ)) (k : ℕ) (cs : List ℕ) (classes : List Class) → length (classed nets k cs classes) ≡ length cs
unfolding classed
length_classed nets k cs [] = refl
length_classed nets k cs (c ∷ classes) = length_classed nets (suc k) (named_in nets k cs c.nets) classes ∙ length_named nets k cs c.nets

-- numbers that are worked out for the nets behind these are those of each net alone
each_own : (classes : List Class) (front back : List (List ℕ)) (ks : List ℕ) → AreFresh (front ++ back) → length ks ≡ length back
    → ((i : ℕ) → i < length back → get_or ks i 0 ≡ number_at (front ++ back) classes (length front + i)) → ks ≡ map (own_number classes) back
each_own classes front [] [] fresh long at = refl
each_own classes front [] (k ∷ ks) fresh long at = absurd (omega (arith, long))
each_own classes front (net ∷ back) [] fresh long at = absurd (omega (arith, long))
each_own classes front (net ∷ back) (k ∷ ks) fresh long at =
    let zero : length front + 0 ≡ length front = omega arith in
    let here : k ≡ own_number classes net =
    at 0 (omega arith) ∙ ap (λ (n : ℕ). number_at (front ++ net ∷ back) classes n) zero ∙ number_behind front back net classes (fresh front back net refl)
    in
    let same : front ++ net ∷ back ≡ (front ++ net ∷ []) ++ back = sym (append_assoc front (net ∷ []) back) in
    let more : ks ≡ map (own_number classes) back =
    each_own classes (front ++ net ∷ []) back ks (subst AreFresh same fresh) (omega (arith, long)) later
    in
    λ i. here i ∷ more i
  where
    later : (i : ℕ) → i < length back → get_or ks i 0 ≡ number_at ((front ++ net ∷ []) ++ back) classes (length (front ++ net ∷ []) + i)
    later i low =
        let one = length-append front (net ∷ []) in
        let place : length front + suc i ≡ length (front ++ net ∷ []) + i = omega (arith, one) in
        at (suc i) (omega (arith, low))
        ∙ ap (λ (ns : List (List ℕ)). number_at ns classes (length front + suc i)) (sym (append_assoc front (net ∷ []) back))
        ∙ ap (λ (n : ℕ). number_at ((front ++ net ∷ []) ++ back) classes n) place

classed_are : (classes : List Class) (nets : List (List ℕ)) → AreFresh nets → classed nets 1 (replicate (length nets) 0) classes ≡ map (own_number classes) nets
classed_are classes nets fresh =
    each_own classes [] nets (classed nets 1 (replicate (length nets) 0) classes) fresh
    (length_classed nets 1 (replicate (length nets) 0) classes ∙ length-replicate (length nets) 0) (λ i low. ap (λ (n : ℕ). number_at nets classes n) (let zero : i ≡ 0 + i = omega arith in zero))

-- ---- the classes of nets of which no name stands twice

pub classes_found : (classes : List Class) (nets : List (List ℕ)) → AreFresh nets → AreClassesOf classes nets (classed nets 1 (replicate (length nets) 0) classes)
classes_found classes nets fresh = subst (λ (ks : List ℕ). AreClassesOf classes nets ks) (sym (classed_are classes nets fresh)) (are_numbers classes nets)

pub classes_again : (classes : List Class) (nets : List (List ℕ)) (ks : List ℕ) → AreFresh nets → AreClassesOf classes nets ks → ks ≡ classed nets 1 (replicate (length nets) 0) classes
classes_again classes nets ks fresh h = numbers_are classes nets ks h ∙ sym (classed_are classes nets fresh)
