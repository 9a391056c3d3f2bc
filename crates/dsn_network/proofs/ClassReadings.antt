-- The classes that stand in a network are those that are read, and the fault of one is the one that is told.
use Rattle.std.proofs.Common.{◌≡◌, ℕ, List, [], ◌∷◌, Ok, Err, sym, ap, subst, ◌∙◌}
use Rattle.sexp_text.specs.Forest.{Forest, End, Word, Branch}
use Rattle.sexp_text.specs.declared.units.Unit.{Unit as LengthUnit}
use Rattle.dsn_lists.specs.declared.faults.DesignFault.{DesignFault}
use Rattle.dsn_lists.specs.declared.marks.Mark.{Mark}
use Rattle.dsn_lists.specs.declared.rules.Rule.{Rule}
use Rattle.dsn_lists.specs.Results.{Read, each}
use Rattle.dsn_lists.specs.Words.{word_of, names}
use Rattle.dsn_lists.specs.Rules.{no_rule}
use Rattle.dsn_lists.specs.Lists.{collect, IsFirst, Every}
use Rattle.dsn_lists.specs.ShortLists.{first_words, behind_words}
use Rattle.dsn_lists.specs.Statements.{Says}
use Rattle.dsn_lists.proofs.Firsts.{made, word_fault, word_fault_again}
use Rattle.dsn_lists.proofs.ShortLaws.{names_are}
use Rattle.dsn_lists.proofs.RuleListLaws.{rule_by}
use Rattle.dsn_lists.proofs.RuleLaws.{says_found, says_is}
use Rattle.dsn_network.specs.declared.classes.Class.{Class}
use Rattle.dsn_network.specs.Networks.{class_item, new_class, class_of}
use Rattle.dsn_network.specs.ClassLists.{IsClassList, ClassListFault, class_widths, class_claims, IsNamedClass, IsClass, ClassFault}
use Rattle.dsn_network.proofs.ClassListLaws.{all, all_found, all_again, lists_fault, lists_fault_again, all_state}

-- ---- a class with a name

-- the class of this name with these words and lists
abbrev class_by : LengthUnit → List ℕ → Forest → Class
class_by u name f = all u (new_class name (first_words f)) (behind_words f)

-- what follows the name
abbrev class_rest : LengthUnit → List ℕ → Forest → Read Class
class_rest u name f = each (class_item u) (new_class name (names [] f).0) (names [] f).1

-- what is read behind the words of the name and the nets
rest_is : (u : LengthUnit) (name : List ℕ) (f : Forest) → class_rest u name f ≡ each (class_item u) (new_class name (first_words f)) (behind_words f)
rest_is u name f = ap (λ (x : List Mark × Forest). each (class_item u) (new_class name x.0) x.1) (names_are f [])

named_found : (u : LengthUnit) (name : List ℕ) (f : Forest) (c : Class) → class_rest u name f ≡ Ok c → IsNamedClass u name f c × (c ≡ class_by u name f)
named_found u name f c e =
    let g = all_found u (behind_words f) (new_class name (first_words f)) c (sym (rest_is u name f) ∙ e) in
    let states = all_state u (behind_words f) g.0 in
    let rule : c.rule ≡ rule_by u no_rule (collect class_widths (behind_words f)) (collect class_claims (behind_words f)) = ap (λ (x : Class). x.rule) g.1 in (
      record {
        formed = g.0;
        name_is = ap (λ (x : Class). x.name) g.1;
        nets = ap (λ (x : Class). x.nets) g.1;
        vias = ap (λ (x : Class). x.vias) g.1;
        rule = subst (λ (r : Rule). Says u (collect class_widths (behind_words f)) (collect class_claims (behind_words f)) r) (sym rule)
            (says_found u (collect class_widths (behind_words f)) (collect class_claims (behind_words f)) states.0 states.1);
      },
      g.1,
    )

named_is : (u : LengthUnit) (name : List ℕ) (f : Forest) (c : Class) → IsNamedClass u name f c → class_by u name f ≡ c
named_is u name f c h =
    let rule = says_is u (collect class_widths (behind_words f)) (collect class_claims (behind_words f)) c.rule h.rule in
    λ i. record { name = sym h.name_is i; nets = sym h.nets i; vias = sym h.vias i; rule = sym rule i }

named_again : (u : LengthUnit) (name : List ℕ) (f : Forest) (c : Class) → IsNamedClass u name f c → class_rest u name f ≡ Ok c
named_again u name f c h = rest_is u name f ∙ all_again u (behind_words f) (new_class name (first_words f)) h.formed ∙ ap made (named_is u name f c h)

-- ---- a class

-- the class of a list, where it has a name
abbrev pub class_value : LengthUnit → Forest → List Class
class_value u End = []
class_value u (Word a text rest) = class_by u text rest ∷ []
class_value u (Branch a inside rest) = []

pub class_found : (u : LengthUnit) (at : ℕ) (f : Forest) (c : Class) → class_of u at f ≡ Ok c → IsClass u f c × (class_value u f ≡ c ∷ [])
unfolding class_of word_of
class_found u at End c e = absurd cc
class_found u at (Branch a inside rest) c e = absurd cc
class_found u at (Word a text rest) c e = let h = named_found u text rest c e in (h.0, ap (λ (x : Class). x ∷ []) (sym h.1))

pub class_again : (u : LengthUnit) (at : ℕ) (f : Forest) (c : Class) → IsClass u f c → class_of u at f ≡ Ok c
unfolding class_of word_of
class_again u at End c h = absurd h
class_again u at (Branch a inside rest) c h = absurd h
class_again u at (Word a text rest) c h = named_again u text rest c h

-- a class is what is read
pub class_is : (u : LengthUnit) (f : Forest) (c : Class) → IsClass u f c → class_value u f ≡ c ∷ []
class_is u End c h = absurd h
class_is u (Branch a inside rest) c h = absurd h
class_is u (Word a text rest) c h = ap (λ (x : Class). x ∷ []) (named_is u text rest c h)

abbrev ClassWordFault : LengthUnit → ℕ → List ℕ → Forest → DesignFault → Type 0
ClassWordFault u a text rest e = IsFirst (Every (IsClassList u)) (ClassListFault u) (behind_words rest) e

pub class_fault : (u : LengthUnit) (at : ℕ) (f : Forest) (e : DesignFault) → class_of u at f ≡ Err e → ClassFault u at f e
unfolding class_of
class_fault u at f e h =
    word_fault _ (ClassWordFault u) at f e (λ a text rest k. lists_fault u (new_class text (first_words rest)) (behind_words rest) e (sym (rest_is u text rest) ∙ k)) h

pub class_fault_again : (u : LengthUnit) (at : ℕ) (f : Forest) (e : DesignFault) → ClassFault u at f e → class_of u at f ≡ Err e
unfolding class_of
class_fault_again u at f e h =
    word_fault_again _ (ClassWordFault u) at f e (λ a text rest k. rest_is u text rest ∙ lists_fault_again u (new_class text (first_words rest)) (behind_words rest) e k) h
