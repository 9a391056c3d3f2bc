-- What a text and its design are to each other, for the crates above.
use Rattle.std.proofs.Common.{◌≡◌, ℕ, ◌≤◌, Bool, true, false, ltb, List, length, Result, Ok, Err, refl, sym, ◌∙◌, subst, arith, inl, inr}
use Rattle.std.proofs.lemmas.Bool.{ltb-true, ltb-false}
use Rattle.sexp_text.specs.Forest.{Forest}
use Rattle.sexp_text.specs.Build.{forest_of}
use Rattle.sexp_text.specs.Tree.{IsTree, IsFirstFault as IsFirstTextFault}
use Rattle.sexp_text.specs.declared.fault.TextFault.{TextFault}
use Rattle.sexp_text.specs.declared.fault.TextFault.TheVariants as texts
use Rattle.sexp_text.proofs.FirstFaults.{Meets, forest_met, tree_again, fault_again}
use Rattle.board_rules.specs.declared.design.Design.{Design}
use Rattle.board_rules.specs.declared.design.Parts.{Parts}
use Rattle.board_rules.specs.Classes.{untyped_of}
use Rattle.board_rules.specs.Needs.{largest_stated}
use Rattle.board_rules.specs.PairTables.{pair_tables_of}
use Rattle.board_rules.specs.Designs.{IsSound}
use Rattle.board_rules.specs.Tables.{tables_of}
use Rattle.board_rules.proofs.Same.{same_design}
use Rattle.dsn_lists.specs.declared.faults.DesignFault.{DesignFault}
use Rattle.dsn_lists.specs.declared.faults.DesignKind.TheVariants as kind
use Rattle.dsn_lists.specs.Results.{Read}
use Rattle.dsn_lists.specs.Lists.{told}
use Rattle.dsn_lists.proofs.Bounds.{ok_is, err_gives}
use Rattle.dsn_reader.specs.Assembly.{parts_of}
use Rattle.dsn_reader.specs.Design.{most_bytes, IsDesign, IsFirstFault, StatesOrFails}
use Rattle.dsn_reader.proofs.WholeLaws.{states_found, states_again, list_fault_found, list_fault_again}
use Rattle.dsn_reader.proofs.SoundParts.{parts_sound}
use Rattle.dsn_reader.proofs.Fits.{small_tree}
use Rattle.dsn_reader.proofs.Readings.{ok_same, err_same, err_not_ok, told_one}

-- a text has one tree
one_tree : (text : List ℕ) (f g : Forest) → IsTree text f → IsTree text g → f ≡ g
one_tree text f g a b = ok_same f (Ok g) (sym (tree_again text f a) ∙ tree_again text g b)

-- a text states at most one design
pub one_design : (text : List ℕ) (d e : Design) → IsDesign text d → IsDesign text e → d ≡ e
one_design text d e a b =
    let same : a.tree ≡ b.tree = one_tree text a.tree b.tree a.is_tree b.is_tree in
    let first : parts_of b.tree ≡ Ok d.parts = subst (λ (f : Forest). parts_of f ≡ Ok d.parts) same (states_again a.tree d.parts a.states) in
    same_design d e (ok_is (sym first ∙ states_again b.tree e.parts b.states))

-- a text that states a design has no fault
pub no_fault : (text : List ℕ) (d : Design) (e : DesignFault) → IsDesign text d → IsFirstFault text e → ⊥
no_fault text d e a (inl h) = let short = a.short in let long = h.long in absurd (grind (arith, short, long))
no_fault text d e a (inr (inl h)) = err_not_ok h.why a.tree (sym (fault_again text h.why h.first) ∙ tree_again text a.tree a.is_tree)
no_fault text d e a (inr (inr h)) =
    let same : h.tree ≡ a.tree = one_tree text h.tree a.tree h.is_tree a.is_tree in
    let fault : parts_of a.tree ≡ Err e = subst (λ (f : Forest). parts_of f ≡ Err e) same (list_fault_again h.tree e h.fault) in
    err_gives (sym fault ∙ states_again a.tree d.parts a.states)

-- a text that states a design has at most 67,108,864 bytes
pub short_design : (text : List ℕ) (d : Design) → IsDesign text d → length text ≤ 67108864
short_design text d a = a.short

-- ---- the first fault

same_text_fault : (text : List ℕ) (a b : TextFault) → IsFirstTextFault text a → IsFirstTextFault text b → a ≡ b
same_text_fault text a b h g = err_same a (Err b) (sym (fault_again text a h) ∙ fault_again text b g)

-- a text has no tree and no fault of the text at once
no_tree : (text : List ℕ) (why : TextFault) (f : Forest) → IsFirstTextFault text why → IsTree text f → ⊥
no_tree text why f h t = err_not_ok why f (sym (fault_again text why h) ∙ tree_again text f t)

-- a text has at most one first fault
pub one_fault : (text : List ℕ) (d e : DesignFault) → IsFirstFault text d → IsFirstFault text e → d ≡ e
one_fault text d e (inl h) (inl g) = h.fault ∙ sym g.fault
one_fault text d e (inl h) (inr (inl g)) = let long = h.long in let short = g.short in absurd (grind (arith, long, short))
one_fault text d e (inl h) (inr (inr g)) = let long = h.long in let short = g.short in absurd (grind (arith, long, short))
one_fault text d e (inr (inl h)) (inl g) = let long = g.long in let short = h.short in absurd (grind (arith, long, short))
one_fault text d e (inr (inr h)) (inl g) = let long = g.long in let short = h.short in absurd (grind (arith, long, short))
one_fault text d e (inr (inl h)) (inr (inl g)) = told_one h.why g.why d e (same_text_fault text h.why g.why h.first g.first) h.fault g.fault
one_fault text d e (inr (inl h)) (inr (inr g)) = absurd (no_tree text h.why g.tree h.first g.is_tree)
one_fault text d e (inr (inr h)) (inr (inl g)) = absurd (no_tree text g.why h.tree g.first h.is_tree)
one_fault text d e (inr (inr h)) (inr (inr g)) =
    let same : h.tree ≡ g.tree = one_tree text h.tree g.tree h.is_tree g.is_tree in
    let first : parts_of g.tree ≡ Err d = subst (λ (f : Forest). parts_of f ≡ Err d) same (list_fault_again h.tree d h.fault) in
    err_same d (Err e) (sym first ∙ list_fault_again g.tree e g.fault)

-- ---- a design or a fault

-- a text fault is told as a fault of the design
text_fault : (text : List ℕ) (why : TextFault) → length text ≤ most_bytes → IsFirstTextFault text why → (e : DesignFault) × IsFirstFault text e
text_fault text (texts.Quote at) short h = (told kind.Quote at, inr (inl (record { short = short; why = texts.Quote at; first = h; fault = refl })))
text_fault text (texts.Unclosed at) short h = (told kind.Unclosed at, inr (inl (record { short = short; why = texts.Unclosed at; first = h; fault = refl })))
text_fault text (texts.Unopened at) short h = (told kind.Unopened at, inr (inl (record { short = short; why = texts.Unopened at; first = h; fault = refl })))
text_fault text (texts.Deep at) short h = (told kind.Deep at, inr (inl (record { short = short; why = texts.Deep at; first = h; fault = refl })))
text_fault text texts.Memory short h = absurd h

-- the design of sound parts
abbrev design_of_sound : (p : Parts) → IsSound p → Design
design_of_sound p s = record {
  parts = p;
  tables = tables_of p.classes;
  pairs = pair_tables_of p;
  start = untyped_of p;
  largest = largest_stated p;
  sound = s;
  tabled = refl;
  paired = refl;
  start_is = refl;
  largest_is = refl;
}

-- what the lists and words of a text come to
listed : (text : List ℕ) (f : Forest) (r : Read Parts) → length text ≤ most_bytes → IsTree text f → parts_of f ≡ r → StatesOrFails text
listed text f (Ok p) short tree e = inl (design_of_sound p (parts_sound f p (small_tree text f short tree) e), record { short = short; tree = f; is_tree = tree; states = states_found f p e })
listed text f (Err d) short tree e = inr (d, inr (inr (record { short = short; tree = f; is_tree = tree; fault = list_fault_found f d e })))

short_text : (text : List ℕ) (r : Result Forest TextFault) → length text ≤ most_bytes → Meets text r → StatesOrFails text
short_text text (Ok f) short tree = listed text f (parts_of f) short tree refl
short_text text (Err why) short first = inr (text_fault text why short first)

-- each text states a design or has a first fault
pub states_or_fails : (text : List ℕ) → StatesOrFails text
states_or_fails text = by (ltb most_bytes (length text)) refl
  where
    by : (b : Bool) → ltb most_bytes (length text) ≡ b → StatesOrFails text
    by true long = inr (told kind.Large most_bytes, inl (record { long = ltb-true most_bytes (length text) long; fault = refl }))
    by false short = short_text text (forest_of text) (let low = ltb-false most_bytes (length text) short in omega (arith, low)) (forest_met text)
