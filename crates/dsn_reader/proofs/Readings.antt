-- What the tree of a text gives is what the text states, and the other way round.
use Rattle.std.proofs.Common.{◌≡◌, ℕ, ◌<◌, ◌≤◌, List, length, Result, Ok, Err, refl, sym, ◌∙◌, subst, arith, inl, inr}
use Rattle.std.specs.Prelude.{IfOk, IfErr, MatchResult, ⊤}
use Rattle.sexp_text.specs.Forest.{Forest}
use Rattle.sexp_text.specs.Tree.{IsTree, IsFirstFault as IsFirstTextFault, WhyNoTree}
use Rattle.sexp_text.specs.Trees.{tree_forest}
use Rattle.sexp_text.specs.Results.{Gives as TreeGives}
use Rattle.sexp_text.specs.declared.tree.Tree.{Tree}
use Rattle.sexp_text.specs.declared.fault.TextFault.{TextFault}
use Rattle.sexp_text.specs.declared.fault.TextFault.TheVariants as texts
use Rattle.board_rules.specs.declared.design.Design.{Design}
use Rattle.board_rules.specs.declared.design.Parts.{Parts}
use Rattle.board_rules.proofs.Same.{same_design}
use Rattle.dsn_lists.specs.declared.faults.DesignFault.{DesignFault}
use Rattle.dsn_lists.specs.declared.faults.DesignKind.TheVariants as kind
use Rattle.dsn_lists.specs.declared.faults.ReadWhy.{ReadWhy}
use Rattle.dsn_lists.specs.declared.faults.ReadWhy.TheVariants.{Fault, Memory}
use Rattle.dsn_lists.specs.Results.{Gives}
use Rattle.dsn_lists.proofs.Bounds.{ok_is, err_gives}
use Rattle.dsn_reader.specs.Assembly.{parts_of}
use Rattle.dsn_reader.proofs.WholeLaws.{states_found, states_again, list_fault_found, list_fault_again}
use Rattle.dsn_reader.specs.Design.{most_bytes, IsDesign, IsTextFault, IsTextWhy, HasListFault, IsFirstFault, WhyNoDesign, IsReadAs, IsRefusedBy}

-- ---- equal results

-- what a result is that is a value, and what it is that is a fault
abbrev pub OkIs : {A B : Type 0} → A → Result A B → Type 0
OkIs x r = MatchResult r (λ y. x ≡ y) (λ _. ⊤)

abbrev ErrIs : {A B : Type 0} → B → Result A B → Type 0
ErrIs e r = MatchResult r (λ _. ⊤) (λ f. e ≡ f)

pub ok_same : {A B : Type 0} (x : A) (r : Result A B) → Ok x ≡ r → OkIs x r
ok_same {A} {B} x r e = subst (λ (q : Result A B). OkIs x q) e refl

pub err_same : {A B : Type 0} (d : B) (r : Result A B) → Err d ≡ r → ErrIs d r
err_same {A} {B} d r e = subst (λ (q : Result A B). ErrIs d q) e refl

abbrev IsWrong : {A B : Type 0} → Result A B → Type 0
IsWrong r = MatchResult r (λ _. ⊥) (λ _. ⊤)

pub err_not_ok : {A B : Type 0} (d : B) (x : A) → Err d ≡ Ok x → ⊥
err_not_ok {A} {B} d x e = subst (λ (r : Result A B). IsWrong r) e tt

-- ---- where there is a tree

abbrev parts : Design → Parts
parts d = d.parts

pub found_if : (text : List ℕ) (f : Forest) (r : Result Design ReadWhy) → length text ≤ most_bytes → IsTree text f → Gives parts r (parts_of f) → IfOk r (IsDesign text)
found_if text f (Ok d) short tree e = record { short = short; tree = f; is_tree = tree; states = states_found f d.parts e }
found_if text f (Err why) short tree e = tt

pub fault_if : (text : List ℕ) (f : Forest) (r : Result Design ReadWhy) → length text ≤ most_bytes → IsTree text f → Gives parts r (parts_of f) → IfErr r (WhyNoDesign text)
fault_if text f (Ok d) short tree e = tt
fault_if text f (Err Memory) short tree e = tt
fault_if text f (Err (Fault d)) short tree e = inr (inr (record { short = short; tree = f; is_tree = tree; fault = list_fault_found f d e }))

-- a tree of the text is the tree that was read
only_tree : (t : Tree) (f : Forest) → TreeGives tree_forest (Ok t) (Ok f) → f ≡ tree_forest t
only_tree t f e = ok_same f (Ok (tree_forest t)) e

read_as : (r : Result Design ReadWhy) (f : Forest) (d : Design) → Gives parts r (parts_of f) → parts_of f ≡ Ok d.parts → IsReadAs r d
read_as (Ok x) f d e s = same_design x d (ok_is (sym e ∙ s))
read_as (Err Memory) f d e s = tt
read_as (Err (Fault w)) f d e s = absurd (err_gives (sym e ∙ s))

refused : (r : Result Design ReadWhy) (f : Forest) (e : DesignFault) → Gives parts r (parts_of f) → parts_of f ≡ Err e → IsRefusedBy r e
refused (Ok x) f e g s = absurd (err_gives (sym s ∙ g))
refused (Err Memory) f e g s = tt
refused (Err (Fault w)) f e g s = err_same w (Err e) (sym g ∙ s)

pub only_if : (text : List ℕ) (t : Tree) (r : Result Design ReadWhy) → ((f : Forest) → IsTree text f → TreeGives tree_forest (Ok t) (Ok f)) → Gives parts r (parts_of (tree_forest t))
    → (d : Design) → IsDesign text d → IsReadAs r d
only_if text t r only g d h =
    let same : h.tree ≡ tree_forest t = only_tree t h.tree (only h.tree h.is_tree) in
    read_as r (tree_forest t) d g (subst (λ (f : Forest). parts_of f ≡ Ok d.parts) same (states_again h.tree d.parts h.states))

first_list : (text : List ℕ) (t : Tree) (r : Result Design ReadWhy) → ((f : Forest) → IsTree text f → TreeGives tree_forest (Ok t) (Ok f)) → Gives parts r (parts_of (tree_forest t))
    → (e : DesignFault) → HasListFault text e → IsRefusedBy r e
first_list text t r only g e h =
    let same : h.tree ≡ tree_forest t = only_tree t h.tree (only h.tree h.is_tree) in
    refused r (tree_forest t) e g (subst (λ (f : Forest). parts_of f ≡ Err e) same (list_fault_again h.tree e h.fault))

no_text_fault : (t : Tree) (why : TextFault) (e : DesignFault) → TreeGives tree_forest (Ok t) (Err why) → ⊥
no_text_fault t why e g = err_not_ok why (tree_forest t) g

pub first_if : (text : List ℕ) (t : Tree) (r : Result Design ReadWhy) → length text ≤ most_bytes → ((f : Forest) → IsTree text f → TreeGives tree_forest (Ok t) (Ok f))
    → ((why : TextFault) → IsFirstTextFault text why → TreeGives tree_forest (Ok t) (Err why)) → Gives parts r (parts_of (tree_forest t)) → (e : DesignFault) → IsFirstFault text e → IsRefusedBy r e
first_if text t r short only first g e (inl h) = let long = h.long in absurd (grind (arith, long, short))
first_if text t r short only first g e (inr (inl h)) = absurd (no_text_fault t h.why e (first h.why h.first))
first_if text t r short only first g e (inr (inr h)) = first_list text t r only g e h

-- ---- where there is none

pub no_only_if : (text : List ℕ) (why : TextFault) (w : ReadWhy) → IsTextWhy why w → ((f : Forest) → IsTree text f → TreeGives tree_forest (Err why) (Ok f)) → (d : Design) → IsDesign text d → IsReadAs (Err w) d
no_only_if text why Memory told only d h = tt
no_only_if text (texts.Quote at) (Fault e) told only d h = err_not_ok _ h.tree (sym (only h.tree h.is_tree))
no_only_if text (texts.Unclosed at) (Fault e) told only d h = err_not_ok _ h.tree (sym (only h.tree h.is_tree))
no_only_if text (texts.Unopened at) (Fault e) told only d h = err_not_ok _ h.tree (sym (only h.tree h.is_tree))
no_only_if text (texts.Deep at) (Fault e) told only d h = err_not_ok _ h.tree (sym (only h.tree h.is_tree))
no_only_if text texts.Memory (Fault e) told only d h = absurd told

pub no_fault_if : (text : List ℕ) (why : TextFault) (w : ReadWhy) → length text ≤ most_bytes → IsTextWhy why w → WhyNoTree text why → WhyNoDesign text w
no_fault_if text why Memory short told h = tt
no_fault_if text (texts.Quote at) (Fault e) short told h = inr (inl (record { short = short; why = texts.Quote at; first = h; fault = told }))
no_fault_if text (texts.Unclosed at) (Fault e) short told h = inr (inl (record { short = short; why = texts.Unclosed at; first = h; fault = told }))
no_fault_if text (texts.Unopened at) (Fault e) short told h = inr (inl (record { short = short; why = texts.Unopened at; first = h; fault = told }))
no_fault_if text (texts.Deep at) (Fault e) short told h = inr (inl (record { short = short; why = texts.Deep at; first = h; fault = told }))
no_fault_if text texts.Memory (Fault e) short told h = absurd told

-- two text faults that are one are told as one
pub told_one : (a b : TextFault) (x y : DesignFault) → a ≡ b → IsTextFault a x → IsTextFault b y → x ≡ y
told_one (texts.Quote at) b x y same p q = p ∙ sym (subst (λ (t : TextFault). IsTextFault t y) (sym same) q)
told_one (texts.Unclosed at) b x y same p q = p ∙ sym (subst (λ (t : TextFault). IsTextFault t y) (sym same) q)
told_one (texts.Unopened at) b x y same p q = p ∙ sym (subst (λ (t : TextFault). IsTextFault t y) (sym same) q)
told_one (texts.Deep at) b x y same p q = p ∙ sym (subst (λ (t : TextFault). IsTextFault t y) (sym same) q)
told_one texts.Memory b x y same p q = absurd p

abbrev IsSameFault : TextFault → TextFault → Type 0
IsSameFault texts.Memory why = Unit {0}
IsSameFault (texts.Quote at) why = why ≡ texts.Quote at
IsSameFault (texts.Unclosed at) why = why ≡ texts.Unclosed at
IsSameFault (texts.Unopened at) why = why ≡ texts.Unopened at
IsSameFault (texts.Deep at) why = why ≡ texts.Deep at

same_fault : (a why : TextFault) → TreeGives tree_forest (Err a) (Err why) → IsSameFault a why
same_fault texts.Memory why g = tt
same_fault (texts.Quote at) why g = err_same why (Err (texts.Quote at)) g
same_fault (texts.Unclosed at) why g = err_same why (Err (texts.Unclosed at)) g
same_fault (texts.Unopened at) why g = err_same why (Err (texts.Unopened at)) g
same_fault (texts.Deep at) why g = err_same why (Err (texts.Deep at)) g

refused_text : (a why : TextFault) (w : ReadWhy) (e : DesignFault) → IsTextWhy a w → IsSameFault a why → IsTextFault why e → IsRefusedBy (Err w) e
refused_text a why Memory e told same h = tt
refused_text (texts.Quote at) why (Fault x) e told same h = told_one (texts.Quote at) why x e (sym same) told h
refused_text (texts.Unclosed at) why (Fault x) e told same h = told_one (texts.Unclosed at) why x e (sym same) told h
refused_text (texts.Unopened at) why (Fault x) e told same h = told_one (texts.Unopened at) why x e (sym same) told h
refused_text (texts.Deep at) why (Fault x) e told same h = told_one (texts.Deep at) why x e (sym same) told h
refused_text texts.Memory why (Fault x) e told same h = absurd told

no_list_fault : (text : List ℕ) (a : TextFault) (w : ReadWhy) (e : DesignFault) → IsTextWhy a w → ((f : Forest) → IsTree text f → TreeGives tree_forest (Err a) (Ok f)) → HasListFault text e → IsRefusedBy (Err w) e
no_list_fault text a Memory e told only h = tt
no_list_fault text (texts.Quote at) (Fault x) e told only h = absurd (err_not_ok _ h.tree (sym (only h.tree h.is_tree)))
no_list_fault text (texts.Unclosed at) (Fault x) e told only h = absurd (err_not_ok _ h.tree (sym (only h.tree h.is_tree)))
no_list_fault text (texts.Unopened at) (Fault x) e told only h = absurd (err_not_ok _ h.tree (sym (only h.tree h.is_tree)))
no_list_fault text (texts.Deep at) (Fault x) e told only h = absurd (err_not_ok _ h.tree (sym (only h.tree h.is_tree)))
no_list_fault text texts.Memory (Fault x) e told only h = absurd told

pub no_first_if : (text : List ℕ) (a : TextFault) (w : ReadWhy) → length text ≤ most_bytes → IsTextWhy a w → ((f : Forest) → IsTree text f → TreeGives tree_forest (Err a) (Ok f))
    → ((why : TextFault) → IsFirstTextFault text why → TreeGives tree_forest (Err a) (Err why)) → (e : DesignFault) → IsFirstFault text e → IsRefusedBy (Err w) e
no_first_if text a w short told only first e (inl h) = let long = h.long in absurd (grind (arith, long, short))
no_first_if text a w short told only first e (inr (inl h)) = refused_text a h.why w e told (same_fault a h.why (first h.why h.first)) h.fault
no_first_if text a w short told only first e (inr (inr h)) = no_list_fault text a w e told only h

-- ---- a text that is too long

pub long_only_if : (text : List ℕ) (r : Result Design ReadWhy) → most_bytes < length text → (d : Design) → IsDesign text d → IsReadAs r d
long_only_if text r long d h = let short = h.short in absurd (grind (arith, long, short))

pub long_first_if : (text : List ℕ) (x e : DesignFault) → most_bytes < length text → x ≡ record { kind = kind.Large; at = most_bytes } → IsFirstFault text e → x ≡ e
long_first_if text x e long told (inl h) = told ∙ sym h.fault
long_first_if text x e long told (inr (inl h)) = let short = h.short in absurd (grind (arith, long, short))
long_first_if text x e long told (inr (inr h)) = let short = h.short in absurd (grind (arith, long, short))
