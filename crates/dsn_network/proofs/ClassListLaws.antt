-- What the lists of a class add is what is read, and their first fault is the one that is told.
use Rattle.std.proofs.Common.{◌≡◌, ℕ, List, [], ◌++◌, Option, Ok, Err, refl, sym, ap, ◌∙◌, append_assoc, inl, inr}
use Rattle.std.proofs.lemmas.List.{append-nil}
use Rattle.sexp_text.specs.Forest.{Forest, End, Word, Branch}
use Rattle.sexp_text.specs.declared.units.Unit.{Unit as LengthUnit}
use Rattle.dsn_lists.specs.declared.faults.DesignFault.{DesignFault}
use Rattle.dsn_lists.specs.declared.marks.Mark.{Mark}
use Rattle.dsn_lists.specs.declared.rules.Rule.{Rule}
use Rattle.dsn_lists.specs.Results.{each}
use Rattle.dsn_lists.specs.Words.{Heading, head_of}
use Rattle.dsn_lists.specs.Rules.{rule_item}
use Rattle.dsn_lists.specs.Lists.{collect, Every, IsFirst}
use Rattle.dsn_lists.specs.Statements.{Claim, widths_in, claims_in}
use Rattle.dsn_lists.proofs.Firsts.{made, ok_is, bind_ok, bind_err, first_found, first_again}
use Rattle.dsn_lists.proofs.RuleListLaws.{rule_by, rule_same, rule_more, rule_all, rule_found, rule_again, rule_fault, rule_fault_again}
use Rattle.dsn_lists.proofs.RuleLaws.{rule_states, AllWidths, AllClaims, widths_join, claims_join}
use Rattle.dsn_network.specs.declared.classes.Class.{Class}
use Rattle.dsn_network.specs.declared.classes.ClassWord.{ClassWord}
use Rattle.dsn_network.specs.declared.classes.ClassWord.TheVariants as words
use Rattle.dsn_network.specs.Networks.{circuit_of, class_word, class_list, class_item}
use Rattle.dsn_network.specs.ClassLists.{uses_in, IsOfClass, IsClassList, OfClassFault, ClassListFault, vias_of_list, class_vias, widths_of_list, class_widths, claims_of_list, class_claims}
use Rattle.dsn_network.proofs.CircuitLaws.{circuit_found, circuit_again, circuit_fault, circuit_fault_again}

-- ---- what lists add to a class

-- the class with these via lists, widths and clearances behind it
abbrev adding : LengthUnit → Class → List (List Mark) → List (Option (List ℕ)) → List Claim → Class
adding u c vs ws cs = record { name = c.name; nets = c.nets; vias = c.vias ++ vs; rule = rule_by u c.rule ws cs }

adding_more : (u : LengthUnit) (c : Class) (vs xs : List (List Mark)) (ws ys : List (Option (List ℕ))) (cs ds : List Claim)
    → adding u (adding u c vs ws cs) xs ys ds ≡ adding u c (vs ++ xs) (ws ++ ys) (cs ++ ds)
adding_more u c vs xs ws ys cs ds = λ i. record { name = c.name; nets = c.nets; vias = append_assoc c.vias vs xs i; rule = rule_more u c.rule ws ys cs ds i }

adding_none : (u : LengthUnit) (c : Class) → c ≡ adding u c [] [] []
adding_none u c = λ i. record { name = c.name; nets = c.nets; vias = sym (append-nil c.vias) i; rule = rule_same u c.rule i }

adding_vias : (u : LengthUnit) (c : Class) (vs all : List (List Mark)) → all ≡ c.vias ++ vs → record c { vias = all } ≡ adding u c vs [] []
adding_vias u c vs all e = λ i. record { name = c.name; nets = c.nets; vias = e i; rule = rule_same u c.rule i }

adding_rule : (u : LengthUnit) (c : Class) (r : Rule) (ws : List (Option (List ℕ))) (cs : List Claim) → r ≡ rule_by u c.rule ws cs → record c { rule = r } ≡ adding u c [] ws cs
adding_rule u c r ws cs e = λ i. record { name = c.name; nets = c.nets; vias = sym (append-nil c.vias) i; rule = e i }

-- ---- one list

-- the class behind one list
abbrev next : LengthUnit → Class → ClassWord → Forest → Class
next u c k f = adding u c (vias_of_list k f) (widths_of_list k f) (claims_of_list k f)

one_found : (u : LengthUnit) (c : Class) (at : ℕ) (h : Heading) (k : ClassWord) (d : Class) → class_list u c at h k ≡ Ok d → IsOfClass u k h.args × (d ≡ next u c k h.args)
one_found u c at h words.Circuit d e =
    let vs = bind_ok (circuit_of c.vias at h.args) (λ vs. made (record c { vias = vs })) d e in
    let v = circuit_found c.vias at h.args vs.0 vs.1 in
    (v.0, sym (ok_is (record c { vias = vs.0 }) d vs.2) ∙ adding_vias u c (collect uses_in h.args) vs.0 v.1)
one_found u c at h words.Rules d e =
    let r = bind_ok (each (rule_item u) c.rule h.args) (λ r. made (record c { rule = r })) d e in
    let v = rule_found u h.args c.rule r.0 r.1 in
    (v.0, sym (ok_is (record c { rule = r.0 }) d r.2) ∙ adding_rule u c r.0 (collect widths_in h.args) (collect claims_in h.args) v.1)
one_found u c at h words.Other d e = (tt, sym (ok_is c d e) ∙ adding_none u c)

one_again : (u : LengthUnit) (c : Class) (at : ℕ) (h : Heading) (k : ClassWord) → IsOfClass u k h.args → class_list u c at h k ≡ Ok (next u c k h.args)
one_again u c at h words.Circuit g = rw (circuit_again c.vias at h.args g) (ap made (adding_vias u c (collect uses_in h.args) (c.vias ++ collect uses_in h.args) refl))
one_again u c at h words.Rules g = rw (rule_again u h.args c.rule g) (ap made (adding_rule u c (rule_all u c.rule h.args) (collect widths_in h.args) (collect claims_in h.args) refl))
one_again u c at h words.Other g = ap made (adding_none u c)

one_fault : (u : LengthUnit) (c : Class) (at : ℕ) (h : Heading) (k : ClassWord) (e : DesignFault) → class_list u c at h k ≡ Err e → OfClassFault u at k h.args e
one_fault u c at h words.Circuit e k =
    elim (bind_err (circuit_of c.vias at h.args) (λ vs. made (record c { vias = vs })) e k) [
      | inl here ↦ circuit_fault c.vias at h.args e here
      | inr later ↦ absurd cc
    ]
one_fault u c at h words.Rules e k =
    elim (bind_err (each (rule_item u) c.rule h.args) (λ r. made (record c { rule = r })) e k) [
      | inl here ↦ rule_fault u c.rule h.args e here
      | inr later ↦ absurd cc
    ]
one_fault u c at h words.Other e k = absurd cc

one_fault_again : (u : LengthUnit) (c : Class) (at : ℕ) (h : Heading) (k : ClassWord) (e : DesignFault) → OfClassFault u at k h.args e → class_list u c at h k ≡ Err e
one_fault_again u c at h words.Circuit e k = rw (circuit_fault_again c.vias at h.args e k) refl
one_fault_again u c at h words.Rules e k = rw (rule_fault_again u c.rule h.args e k) refl
one_fault_again u c at h words.Other e k = absurd k

-- ---- all lists

-- the class behind all lists
abbrev pub all : LengthUnit → Class → Forest → Class
all u c f = adding u c (collect class_vias f) (collect class_widths f) (collect class_claims f)

more : (u : LengthUnit) (c : Class) (at : ℕ) (inside rest : Forest) → all u (next u c (class_word (head_of inside).text) (head_of inside).args) rest ≡ all u c (Branch at inside rest)
more u c at inside rest =
    adding_more u c (class_vias at inside) (collect class_vias rest) (class_widths at inside) (collect class_widths rest) (class_claims at inside) (collect class_claims rest)

pub all_found : (u : LengthUnit) (f : Forest) (c d : Class) → each (class_item u) c f ≡ Ok d → Every (IsClassList u) f × (d ≡ all u c f)
unfolding each class_item
all_found u End c d e = (tt, sym (ok_is c d e) ∙ adding_none u c)
all_found u (Word at text rest) c d e = absurd cc
all_found u (Branch at inside rest) c d e =
    let y = bind_ok (class_item u c at inside) (λ y. each (class_item u) y rest) d e in
    let one = one_found u c at (head_of inside) (class_word (head_of inside).text) y.0 y.1 in
    let others = all_found u rest y.0 d y.2 in
    ((one.0, others.0), others.1 ∙ ap (λ (x : Class). all u x rest) one.1 ∙ more u c at inside rest)

pub all_again : (u : LengthUnit) (f : Forest) (c : Class) → Every (IsClassList u) f → each (class_item u) c f ≡ Ok (all u c f)
unfolding each class_item
all_again u End c h = ap made (adding_none u c)
all_again u (Word at text rest) c h = absurd h
all_again u (Branch at inside rest) c h =
    let first = one_again u c at (head_of inside) (class_word (head_of inside).text) h.0 in
    rw first (all_again u rest (next u c (class_word (head_of inside).text) (head_of inside).args) h.1 ∙ ap made (more u c at inside rest))

list_fault : (u : LengthUnit) (c : Class) (before inside : Forest) (at : ℕ) (e : DesignFault) → class_item u c at inside ≡ Err e → ClassListFault u before at inside e
unfolding class_item
list_fault u c before inside at e h = one_fault u c at (head_of inside) (class_word (head_of inside).text) e h

list_fault_again : (u : LengthUnit) (c : Class) (before inside : Forest) (at : ℕ) (e : DesignFault) → ClassListFault u before at inside e → class_item u c at inside ≡ Err e
unfolding class_item
list_fault_again u c before inside at e h = one_fault_again u c at (head_of inside) (class_word (head_of inside).text) e h

pub lists_fault : (u : LengthUnit) (c : Class) (f : Forest) (e : DesignFault) → each (class_item u) c f ≡ Err e → IsFirst (Every (IsClassList u)) (ClassListFault u) f e
lists_fault u c f e h =
    first_found (class_item u) c (all u c) (Every (IsClassList u)) (ClassListFault u) (λ f d k. all_found u f c d k)
    (λ before inside at e stand k. list_fault u (all u c before) before inside at e k) f e h

pub lists_fault_again : (u : LengthUnit) (c : Class) (f : Forest) (e : DesignFault) → IsFirst (Every (IsClassList u)) (ClassListFault u) f e → each (class_item u) c f ≡ Err e
lists_fault_again u c f e h =
    first_again (class_item u) c (all u c) (Every (IsClassList u)) (ClassListFault u) (λ f k. all_again u f c k)
    (λ before inside at e stand k. list_fault_again u (all u c before) before inside at e k) f e h

-- ---- what rules state

one_states : (u : LengthUnit) (f : Forest) (k : ClassWord) → IsOfClass u k f → AllWidths u (widths_of_list k f) × AllClaims u (claims_of_list k f)
one_states u f words.Circuit h = (tt, tt)
one_states u f words.Rules h = rule_states u f h
one_states u f words.Other h = (tt, tt)

pub all_state : (u : LengthUnit) (f : Forest) → Every (IsClassList u) f → AllWidths u (collect class_widths f) × AllClaims u (collect class_claims f)
all_state u End h = (tt, tt)
all_state u (Word at text rest) h = absurd h
all_state u (Branch at inside rest) h =
    let one = one_states u (head_of inside).args (class_word (head_of inside).text) h.0 in
    let others = all_state u rest h.1 in
    (widths_join u (class_widths at inside) (collect class_widths rest) one.0 others.0, claims_join u (class_claims at inside) (collect class_claims rest) one.1 others.1)
