-- What the lists of a rule add is what is read, and their first fault is the one that is told.
use Rattle.std.proofs.Common.{◌≡◌, ℕ, List, [], ◌∷◌, ◌++◌, map, Option, Some, Ok, Err, refl, sym, ap, ◌∙◌, append_assoc, inl, inr}
use Rattle.std.proofs.lemmas.List.{append-nil, map-append}
use Rattle.sexp_text.specs.Forest.{Forest, End, Word, Branch}
use Rattle.sexp_text.specs.declared.units.Unit.{Unit as LengthUnit}
use Rattle.board_rules.specs.declared.design.Stated.{Stated}
use Rattle.dsn_lists.specs.declared.faults.DesignFault.{DesignFault}
use Rattle.dsn_lists.specs.declared.rules.Rule.{Rule}
use Rattle.dsn_lists.specs.declared.rules.RuleWord.{RuleWord}
use Rattle.dsn_lists.specs.declared.rules.RuleWord.TheVariants as rules
use Rattle.dsn_lists.specs.Results.{each}
use Rattle.dsn_lists.specs.Words.{head_of}
use Rattle.dsn_lists.specs.Rules.{clearance_list, width_list, rule_word, rule_list, rule_item}
use Rattle.dsn_lists.specs.Lists.{collect, last_of}
use Rattle.dsn_lists.specs.Statements.{Claim, IsOfRule, IsRule, OfRuleFault, RuleListFault, RuleFault, width_text, width_stated, widths_in, claims_stated, claims_in}
use Rattle.dsn_lists.proofs.Firsts.{made, ok_is, bind_ok, bind_err, first_found, first_again}
use Rattle.dsn_lists.proofs.WidthLaws.{valued, width_list_found, width_list_again, width_list_fault, width_list_fault_again}
use Rattle.dsn_lists.proofs.UnitLaws.{last-append}
use Rattle.dsn_lists.proofs.StatementLaws.{claimed, clearance_found, clearance_again, clearance_fault, clearance_fault_again}

-- ---- one list

-- the rule behind lists with these widths and statements, with the widths that are read
abbrev pub rule_by : LengthUnit → Rule → List (Option (List ℕ)) → List Claim → Rule
rule_by u r widths claims = record { width = last_of r.width (map (valued u) widths); stated = r.stated ++ map (claimed u) claims }

pub rule_same : (u : LengthUnit) (r : Rule) → r ≡ rule_by u r [] []
rule_same u r = ap (λ (s : List Stated). record { width = r.width; stated = s }) (sym (append-nil r.stated))

pub rule_more : (u : LengthUnit) (r : Rule) (ws vs : List (Option (List ℕ))) (cs ds : List Claim) → rule_by u (rule_by u r ws cs) vs ds ≡ rule_by u r (ws ++ vs) (cs ++ ds)
rule_more u r ws vs cs ds = λ i. record {
  width = (sym (last-append r.width (map (valued u) ws) (map (valued u) vs)) ∙ ap (λ (xs : List (Option ℕ)). last_of r.width xs) (sym (map-append (valued u) ws vs))) i;
  stated = (append_assoc r.stated (map (claimed u) cs) (map (claimed u) ds) ∙ ap (λ (xs : List Stated). r.stated ++ xs) (sym (map-append (claimed u) cs ds))) i;
}

-- the rule with this width
abbrev wide : Rule → ℕ → Rule
wide r n = record { width = Some n; stated = r.stated }

wide_is : (u : LengthUnit) (r : Rule) (f : Forest) (n : ℕ) → map (valued u) (width_text f) ≡ Some n ∷ [] → wide r n ≡ rule_by u r (width_text f) []
wide_is u r f n e = rule_same u (wide r n) ∙ ap (λ (ws : List (Option ℕ)). record { width = last_of r.width ws; stated = r.stated ++ [] }) (sym e)

one_found : (u : LengthUnit) (r : Rule) (at : ℕ) (f : Forest) (k : RuleWord) (q : Rule) → rule_list u r at f k ≡ Ok q → IsOfRule u k f × (q ≡ rule_by u r (width_stated k f) (claims_stated k f))
one_found u r at f rules.Width q e =
    let n = bind_ok (width_list u at f) (λ w. made (wide r w)) q e in
    let w = width_list_found u at f n.0 n.1 in
    (w.0, sym (ok_is (wide r n.0) q n.2) ∙ wide_is u r f n.0 w.1)
one_found u r at f rules.Clearance q e =
    let ss = bind_ok (clearance_list u r.stated at f) (λ ss. made (record { width = r.width; stated = ss })) q e in
    let c = clearance_found u r.stated at f ss.0 ss.1 in
    (c.0, sym (ok_is (record { width = r.width; stated = ss.0 }) q ss.2) ∙ ap (λ (xs : List Stated). record { width = r.width; stated = xs }) c.1)
one_found u r at f rules.Other q e = (tt, sym (ok_is r q e) ∙ rule_same u r)

one_again : (u : LengthUnit) (r : Rule) (at : ℕ) (f : Forest) (k : RuleWord) → IsOfRule u k f → rule_list u r at f k ≡ Ok (rule_by u r (width_stated k f) (claims_stated k f))
one_again u r at f rules.Width h = let w = width_list_again u at f h in rw w.1 (ap made (wide_is u r f w.0 w.2))
one_again u r at f rules.Clearance h = rw (clearance_again u r.stated at f h) refl
one_again u r at f rules.Other h = ap made (rule_same u r)

one_fault : (u : LengthUnit) (r : Rule) (at : ℕ) (f : Forest) (k : RuleWord) (e : DesignFault) → rule_list u r at f k ≡ Err e → OfRuleFault u at k f e
one_fault u r at f rules.Width e h =
    elim (bind_err (width_list u at f) (λ w. made (wide r w)) e h) [
      | inl here ↦ width_list_fault u at f e here
      | inr later ↦ absurd cc
    ]
one_fault u r at f rules.Clearance e h =
    elim (bind_err (clearance_list u r.stated at f) (λ ss. made (record { width = r.width; stated = ss })) e h) [
      | inl here ↦ clearance_fault u r.stated at f e here
      | inr later ↦ absurd cc
    ]
one_fault u r at f rules.Other e h = absurd cc

one_fault_again : (u : LengthUnit) (r : Rule) (at : ℕ) (f : Forest) (k : RuleWord) (e : DesignFault) → OfRuleFault u at k f e → rule_list u r at f k ≡ Err e
one_fault_again u r at f rules.Width e h = rw (width_list_fault_again u at f e h) refl
one_fault_again u r at f rules.Clearance e h = rw (clearance_fault_again u r.stated at f e h) refl
one_fault_again u r at f rules.Other e h = absurd h

-- ---- the lists of a rule

abbrev pub rule_all : LengthUnit → Rule → Forest → Rule
rule_all u r f = rule_by u r (collect widths_in f) (collect claims_in f)

pub rule_found : (u : LengthUnit) (f : Forest) (r q : Rule) → each (rule_item u) r f ≡ Ok q → IsRule u f × (q ≡ rule_all u r f)
unfolding each rule_item
rule_found u End r q e = (tt, sym (ok_is r q e) ∙ rule_same u r)
rule_found u (Word at text rest) r q e = absurd cc
rule_found u (Branch at inside rest) r q e =
    let y = bind_ok (rule_item u r at inside) (λ y. each (rule_item u) y rest) q e in
    let one = one_found u r at (head_of inside).args (rule_word (head_of inside).text) y.0 y.1 in
    let more = rule_found u rest y.0 q y.2 in
    ((one.0, more.0), more.1 ∙ ap (λ (x : Rule). rule_all u x rest) one.1 ∙ rule_more u r (widths_in at inside) (collect widths_in rest) (claims_in at inside) (collect claims_in rest))

pub rule_again : (u : LengthUnit) (f : Forest) (r : Rule) → IsRule u f → each (rule_item u) r f ≡ Ok (rule_all u r f)
unfolding each rule_item
rule_again u End r h = ap made (rule_same u r)
rule_again u (Word at text rest) r h = absurd h
rule_again u (Branch at inside rest) r h =
    let one = one_again u r at (head_of inside).args (rule_word (head_of inside).text) h.0 in
    let more = rule_again u rest (rule_by u r (widths_in at inside) (claims_in at inside)) h.1 in
    rw one (more ∙ ap made (rule_more u r (widths_in at inside) (collect widths_in rest) (claims_in at inside) (collect claims_in rest)))

item_fault : (u : LengthUnit) (r : Rule) (before inside : Forest) (at : ℕ) (e : DesignFault) → rule_item u r at inside ≡ Err e → RuleListFault u before at inside e
unfolding rule_item
item_fault u r before inside at e h = one_fault u r at (head_of inside).args (rule_word (head_of inside).text) e h

item_fault_again : (u : LengthUnit) (r : Rule) (before inside : Forest) (at : ℕ) (e : DesignFault) → RuleListFault u before at inside e → rule_item u r at inside ≡ Err e
unfolding rule_item
item_fault_again u r before inside at e h = one_fault_again u r at (head_of inside).args (rule_word (head_of inside).text) e h

pub rule_fault : (u : LengthUnit) (r : Rule) (f : Forest) (e : DesignFault) → each (rule_item u) r f ≡ Err e → RuleFault u f e
rule_fault u r f e h =
    first_found (rule_item u) r (rule_all u r) (IsRule u) (RuleListFault u) (λ f q k. rule_found u f r q k)
    (λ before inside at e stand k. item_fault u (rule_all u r before) before inside at e k) f e h

pub rule_fault_again : (u : LengthUnit) (r : Rule) (f : Forest) (e : DesignFault) → RuleFault u f e → each (rule_item u) r f ≡ Err e
rule_fault_again u r f e h =
    first_again (rule_item u) r (rule_all u r) (IsRule u) (RuleListFault u) (λ f k. rule_again u f r k)
    (λ before inside at e stand k. item_fault_again u (rule_all u r before) before inside at e k) f e h
