-- The unknown name of a padstack that is told is the first in the text.
use Rattle.std.proofs.Common.{◌≡◌, ℕ, ◌≤◌, nat_lt, Bool, true, false, cond, List, [], ◌∷◌, ◌++◌, Option, Some, None, Ok, Err, refl, sym, ap, subst, ◌∙◌, arith, inl, inr, ◌⊎◌}
use Rattle.std.specs.Prelude.{is_ok, IfOk, IfErr, Result}
use Rattle.std.specs.List.{flat_map}
use Rattle.std.proofs.lemmas.Bool.{ltb-true, ltb-false}
use Rattle.dsn_lists.specs.declared.faults.DesignFault.{DesignFault}
use Rattle.dsn_lists.specs.declared.faults.DesignKind.{DesignKind}
use Rattle.dsn_lists.specs.declared.faults.DesignKind.TheVariants as kind
use Rattle.dsn_lists.specs.declared.marks.Mark.{Mark}
use Rattle.dsn_lists.specs.Results.{Tells}
use Rattle.dsn_lists.specs.Names.{is_among}
use Rattle.dsn_lists.specs.Lists.{told}
use Rattle.dsn_lists.proofs.Firsts.{failed}
use Rattle.dsn_structure.specs.declared.structure.Structure.{Structure}
use Rattle.dsn_network.specs.declared.classes.Class.{Class}
use Rattle.dsn_reader.specs.Assembly.{lesser, least_of, least_unknown, least_in_lists, least_in_classes, unless_unknown, known_vias}
use Rattle.dsn_reader.specs.Rows.{joined_lists, via_names, AreKnown, UnknownAt, IsLeastUnknown, ViaNameFault}

-- ---- the least unknown name

least-append : (names : List (List ℕ)) (o : Option ℕ) (xs ys : List Mark) → least_unknown names o (xs ++ ys) ≡ least_unknown names (least_unknown names o xs) ys
unfolding least_unknown
least-append names o [] ys = refl
least-append names o (m ∷ xs) ys = least-append names (least_of names o m) xs ys

in_lists : (names : List (List ℕ)) (o : Option ℕ) (lists : List (List Mark)) → least_in_lists names o lists ≡ least_unknown names o (joined_lists lists)
unfolding least_in_lists least_unknown
in_lists names o [] = refl
in_lists names o (ms ∷ lists) = in_lists names (least_unknown names o ms) lists ∙ sym (least-append names o ms (joined_lists lists))

in_classes : (names : List (List ℕ)) (o : Option ℕ) (cs : List Class) → least_in_classes names o cs ≡ least_unknown names o (flat_map (λ (c : Class). joined_lists c.vias) cs)
unfolding least_in_classes least_unknown
in_classes names o [] = refl
in_classes names o (c ∷ cs) =
    in_classes names (least_in_lists names o c.vias) cs
    ∙ ap (λ (p : Option ℕ). least_unknown names p (flat_map (λ (c : Class). joined_lists c.vias) cs)) (in_lists names o c.vias)
    ∙ sym (least-append names o (joined_lists c.vias) (flat_map (λ (c : Class). joined_lists c.vias) cs))

in_all : (names : List (List ℕ)) (s : Structure) (cs : List Class) → least_in_classes names (least_in_lists names None s.vias) cs ≡ least_unknown names None (via_names s cs)
in_all names s cs =
    in_classes names (least_in_lists names None s.vias) cs
    ∙ ap (λ (p : Option ℕ). least_unknown names p (flat_map (λ (c : Class). joined_lists c.vias) cs)) (in_lists names None s.vias)
    ∙ sym (least-append names None (joined_lists s.vias) (flat_map (λ (c : Class). joined_lists c.vias) cs))

-- the byte was told before, or an unknown name stands there
abbrev Stood : List (List ℕ) → Option ℕ → List Mark → ℕ → Type 0
Stood names o ms at = (o ≡ Some at) ⊎ UnknownAt names ms at

abbrev IsLeast : List (List ℕ) → Option ℕ → List Mark → Option ℕ → Type 0
IsLeast names o ms None = (o ≡ None) × AreKnown names ms
IsLeast names o ms (Some at) = Stood names o ms at × ((b : ℕ) → Stood names o ms b → at ≤ b)

some_is : (a b : ℕ) → Some a ≡ Some b → a ≡ b
some_is a b e = cc

stood_known : (names : List (List ℕ)) (o : Option ℕ) (m : Mark) (ms : List Mark) (at : ℕ) → is_among m.name names ≡ true → Stood names o (m ∷ ms) at → Stood names o ms at
stood_known names o m ms at known (inl before) = inl before
stood_known names o m ms at known (inr (inl here)) = absurd cc
stood_known names o m ms at known (inr (inr later)) = inr later

stood_more : (names : List (List ℕ)) (o : Option ℕ) (m : Mark) (ms : List Mark) (at : ℕ) → Stood names o ms at → Stood names o (m ∷ ms) at
stood_more names o m ms at (inl before) = inl before
stood_more names o m ms at (inr later) = inr (inr later)

known_step : (names : List (List ℕ)) (o : Option ℕ) (m : Mark) (ms : List Mark) (r : Option ℕ) → is_among m.name names ≡ true → IsLeast names o ms r → IsLeast names o (m ∷ ms) r
known_step names o m ms None known h = (h.0, (known, h.1))
known_step names o m ms (Some at) known h = (stood_more names o m ms at h.0, λ b s. h.1 b (stood_known names o m ms b known s))

-- of the byte told before and that of one more, the lesser one
lesser_is : (o : Option ℕ) (a : ℕ) → (k : ℕ) × (lesser o a ≡ Some k) × ((o ≡ Some k) ⊎ (a ≡ k)) × ((b : ℕ) → (o ≡ Some b) ⊎ (a ≡ b) → k ≤ b)
lesser_is None a = (a, refl, inr refl, λ b s. none b s)
  where
    none : (b : ℕ) → (None ≡ Some b) ⊎ (a ≡ b) → a ≤ b
    none b (inl e) = absurd cc
    none b (inr e) = omega (arith, e)
lesser_is (Some l) a = by (nat_lt a l) refl
  where
    less : (b : ℕ) → nat_lt a l ≡ true → (Some l ≡ Some b) ⊎ (a ≡ b) → a ≤ b
    less b is (inl e) = let same = some_is l b e in let low = ltb-true a l is in omega (arith, same, low)
    less b is (inr e) = omega (arith, e)

    more : (b : ℕ) → nat_lt a l ≡ false → (Some l ≡ Some b) ⊎ (a ≡ b) → l ≤ b
    more b is (inl e) = let same = some_is l b e in omega (arith, same)
    more b is (inr e) = let low = ltb-false a l is in omega (arith, e, low)

    by : (t : Bool) → nat_lt a l ≡ t → (k : ℕ) × (cond t (Some a) (Some l) ≡ Some k) × ((Some l ≡ Some k) ⊎ (a ≡ k)) × ((b : ℕ) → (Some l ≡ Some b) ⊎ (a ≡ b) → k ≤ b)
    by true is = (a, refl, inr refl, λ b s. less b is s)
    by false is = (l, refl, inl refl, λ b s. more b is s)

unknown_step : (names : List (List ℕ)) (o : Option ℕ) (m : Mark) (ms : List Mark) (r : Option ℕ) → is_among m.name names ≡ false → IsLeast names (lesser o m.at) ms r → IsLeast names o (m ∷ ms) r
unknown_step names o m ms None not h = let l = lesser_is o m.at in absurd (none l.0 (sym l.1 ∙ h.0))
  where
    none : (k : ℕ) → Some k ≡ None → ⊥
    none k e = absurd cc
unknown_step names o m ms (Some at) not h = (here h.0, behind)
  where
    front : (k : ℕ) → lesser o m.at ≡ Some k → Stood names o (m ∷ ms) k
    front k e =
        let l = lesser_is o m.at in
        let same = some_is l.0 k (sym l.1 ∙ e) in
        elim l.2 [
          | inl old ↦ inl (old ∙ ap (λ (x : ℕ). Some x) same)
          | inr new ↦ inr (inl (not, new ∙ same))
        ]

    here : Stood names (lesser o m.at) ms at → Stood names o (m ∷ ms) at
    here (inl e) = front at e
    here (inr later) = inr (inr later)

    low : (b : ℕ) → (o ≡ Some b) ⊎ (m.at ≡ b) → at ≤ b
    low b s = let l = lesser_is o m.at in let p = h.1 l.0 (inl l.1) in let q = l.3 b s in omega (arith, p, q)

    behind : (b : ℕ) → Stood names o (m ∷ ms) b → at ≤ b
    behind b (inl old) = low b (inl old)
    behind b (inr (inl new)) = low b (inr new.1)
    behind b (inr (inr later)) = h.1 b (inr later)

none_told : (names : List (List ℕ)) (o : Option ℕ) → IsLeast names o [] o
none_told names None = (refl, tt)
none_told names (Some k) = (inl refl, λ b s. only b s)
  where
    only : (b : ℕ) → (Some k ≡ Some b) ⊎ ⊥ → k ≤ b
    only b (inl e) = let same = some_is k b e in omega (arith, same)
    only b (inr none) = absurd none

one_told : (names : List (List ℕ)) (o : Option ℕ) (m : Mark) (ms : List Mark) (t : Bool) → is_among m.name names ≡ t
    → ((p : Option ℕ) → IsLeast names p ms (least_unknown names p ms)) → IsLeast names o (m ∷ ms) (least_unknown names (cond t o (lesser o m.at)) ms)
one_told names o m ms true is rest = known_step names o m ms (least_unknown names o ms) is (rest o)
one_told names o m ms false is rest = unknown_step names o m ms (least_unknown names (lesser o m.at) ms) is (rest (lesser o m.at))

is_least : (names : List (List ℕ)) (o : Option ℕ) (ms : List Mark) → IsLeast names o ms (least_unknown names o ms)
unfolding least_unknown
is_least names o [] = none_told names o
is_least names o (m ∷ ms) = one_told names o m ms (is_among m.name names) refl (λ p. is_least names p ms)

-- ---- lists of vias

not_unknown : (names : List (List ℕ)) (ms : List Mark) (at : ℕ) → AreKnown names ms → UnknownAt names ms at → ⊥
not_unknown names [] at known h = absurd h
not_unknown names (m ∷ ms) at known (inl here) = let yes = known.0 in let no = here.0 in absurd cc
not_unknown names (m ∷ ms) at known (inr later) = not_unknown names ms at known.1 later

abbrev Least : List (List ℕ) → List Mark → Option ℕ → Type 0
Least names ms o = IsLeast names None ms o

none_stood : (names : List (List ℕ)) (ms : List Mark) (at : ℕ) → Stood names None ms at → UnknownAt names ms at
none_stood names ms at (inl e) = absurd cc
none_stood names ms at (inr here) = here

least_is : (names : List (List ℕ)) (ms : List Mark) (at : ℕ) → Least names ms (Some at) → IsLeastUnknown names ms at
least_is names ms at h = record { unknown = none_stood names ms at h.0; least = λ b u. h.1 b (inr u) }

known_of : (names : List (List ℕ)) (ms : List Mark) (o : Option ℕ) → Least names ms o → unless_unknown o ≡ Ok tt → AreKnown names ms
known_of names ms None h e = h.1
known_of names ms (Some at) h e = absurd cc

of_known : (names : List (List ℕ)) (ms : List Mark) (o : Option ℕ) → Least names ms o → AreKnown names ms → unless_unknown o ≡ Ok tt
of_known names ms None h known = refl
of_known names ms (Some at) h known = absurd (not_unknown names ms at known (none_stood names ms at h.0))

fault_of : (names : List (List ℕ)) (ms : List Mark) (o : Option ℕ) (e : DesignFault) → Least names ms o → unless_unknown o ≡ Err e → ViaNameFault names ms e
fault_of names ms None e h is = absurd cc
fault_of names ms (Some at) e h is = subst (λ (d : DesignFault). ViaNameFault names ms d) (err_same (told kind.Name at) e is) (refl, least_is names ms at h)
  where
    err_same : (a b : DesignFault) → failed {A = Unit {0}} a ≡ failed b → a ≡ b
    err_same a b e = cc

of_fault : (names : List (List ℕ)) (ms : List Mark) (o : Option ℕ) (e : DesignFault) → Least names ms o → ViaNameFault names ms e → unless_unknown o ≡ Err e
of_fault names ms None e h is = absurd (not_unknown names ms e.at h.1 is.1.unknown)
of_fault names ms (Some at) e h is =
    let low = h.1 e.at (inr is.1.unknown) in
    let high = is.1.least at (none_stood names ms at h.0) in
    let same : at ≡ e.at = omega (arith, low, high) in
    ap (λ (b : ℕ). failed (told kind.Name b)) same ∙ ap (λ (k : DesignKind). failed (told k e.at)) (sym is.0)

-- each name in a list of vias is a padstack's exactly where that is read
pub vias_known : (names : List (List ℕ)) (s : Structure) (cs : List Class) → known_vias names s cs ≡ Ok tt → AreKnown names (via_names s cs)
unfolding known_vias
vias_known names s cs e = known_of names (via_names s cs) (least_unknown names None (via_names s cs)) (is_least names None (via_names s cs)) (ap unless_unknown (sym (in_all names s cs)) ∙ e)

pub known_again : (names : List (List ℕ)) (s : Structure) (cs : List Class) → AreKnown names (via_names s cs) → known_vias names s cs ≡ Ok tt
unfolding known_vias
known_again names s cs h = ap unless_unknown (in_all names s cs) ∙ of_known names (via_names s cs) (least_unknown names None (via_names s cs)) (is_least names None (via_names s cs)) h

-- the fault that is told is that of the unknown name that stands first
pub unknown_found : (names : List (List ℕ)) (s : Structure) (cs : List Class) (e : DesignFault) → known_vias names s cs ≡ Err e → ViaNameFault names (via_names s cs) e
unfolding known_vias
unknown_found names s cs e h = fault_of names (via_names s cs) (least_unknown names None (via_names s cs)) e (is_least names None (via_names s cs)) (ap unless_unknown (sym (in_all names s cs)) ∙ h)

pub unknown_again : (names : List (List ℕ)) (s : Structure) (cs : List Class) (e : DesignFault) → ViaNameFault names (via_names s cs) e → known_vias names s cs ≡ Err e
unfolding known_vias
unknown_again names s cs e h = ap unless_unknown (in_all names s cs) ∙ of_fault names (via_names s cs) (least_unknown names None (via_names s cs)) e (is_least names None (via_names s cs)) h

-- what a call returned that tells of lists of vias
pub told_known : (names : List (List ℕ)) (s : Structure) (cs : List Class) (r : Result (Unit {0}) DesignFault) → Tells (λ (x : Unit {0}). x) r (known_vias names s cs) → IfOk r (λ _. AreKnown names (via_names s cs))
told_known names s cs (Ok x) e = vias_known names s cs e
told_known names s cs (Err d) e = tt

pub told_only : (names : List (List ℕ)) (s : Structure) (cs : List Class) (r : Result (Unit {0}) DesignFault) → Tells (λ (x : Unit {0}). x) r (known_vias names s cs) → AreKnown names (via_names s cs) → is_ok r ≡ true
told_only names s cs (Ok x) e known = refl
told_only names s cs (Err d) e known = absurd (no_fault d (sym e ∙ known_again names s cs known))
  where
    no_fault : (d : DesignFault) → failed {A = Unit {0}} d ≡ Ok tt → ⊥
    no_fault d e = absurd cc

pub told_fault : (names : List (List ℕ)) (s : Structure) (cs : List Class) (r : Result (Unit {0}) DesignFault) → Tells (λ (x : Unit {0}). x) r (known_vias names s cs) → IfErr r (ViaNameFault names (via_names s cs))
told_fault names s cs (Ok x) e = tt
told_fault names s cs (Err d) e = unknown_found names s cs d e

pub told_first : (names : List (List ℕ)) (s : Structure) (cs : List Class) (r : Result (Unit {0}) DesignFault) → Tells (λ (x : Unit {0}). x) r (known_vias names s cs) → (e : DesignFault) → ViaNameFault names (via_names s cs) e → r ≡ Err e
told_first names s cs (Ok x) told e fault = absurd (no_value e (sym told ∙ unknown_again names s cs e fault))
  where
    no_value : (e : DesignFault) → Ok tt ≡ failed {A = Unit {0}} e → ⊥
    no_value e h = absurd cc
told_first names s cs (Err d) told e fault = sym told ∙ unknown_again names s cs e fault
