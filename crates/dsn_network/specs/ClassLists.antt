-- What a class of a network is, and what is wrong with a list that is none.
-- Models: the class, circuit and use_via descriptors of the SPECCTRA reference.
use Rattle.std.specs.Prelude.{◌≡◌, ℕ, ◌<◌, ◌⊎◌, List, [], ◌∷◌, codes, length, Option}
use Rattle.sexp_text.specs.Forest.{Forest}
use Rattle.sexp_text.specs.declared.units.Unit.{Unit as LengthUnit}
use Rattle.dsn_lists.specs.declared.faults.DesignFault.{DesignFault}
use Rattle.dsn_lists.specs.declared.faults.DesignKind.TheVariants as kind
use Rattle.dsn_lists.specs.declared.marks.Mark.{Mark}
use Rattle.dsn_lists.specs.Words.{head_of}
use Rattle.dsn_lists.specs.Keyed.{HoldsWith, FaultWith, given_with}
use Rattle.dsn_lists.specs.Lists.{collect, Every, told, IsFirst}
use Rattle.dsn_lists.specs.ShortLists.{HasWord, NoWordOr, first_words, behind_words, IsNameList, NameListFault}
use Rattle.dsn_lists.specs.Statements.{Claim, IsRule, RuleFault, widths_in, claims_in, Says}
use Rattle.dsn_network.specs.declared.classes.Class.{Class}
use Rattle.dsn_network.specs.declared.classes.ClassWord.{ClassWord}
use Rattle.dsn_network.specs.declared.classes.ClassWord.TheVariants as words
use Rattle.dsn_network.specs.Networks.{class_word}

-- ---- `(circuit (use_via <padstack> ..) ..)`

-- a `use_via` list names one padstack or more; other lists are read over
abbrev pub IsUse : ℕ → Forest → Type 0
IsUse = HoldsWith (codes "use_via") IsNameList

-- the fault of a `use_via` list
abbrev pub UseFault : Forest → ℕ → Forest → DesignFault → Type 0
UseFault = FaultWith (codes "use_via") NameListFault

-- the padstacks that a `use_via` list names
abbrev pub uses_in : ℕ → Forest → List (List Mark)
uses_in = given_with (codes "use_via") (λ f. first_words f ∷ [])

-- a circuit: lists of which one or more say what vias to use
abbrev pub IsCircuit : Forest → Type 0
IsCircuit f = Every IsUse f × (0 < length (collect uses_in f))

-- the first fault of a circuit that begins at this byte; where no list says what vias to use it is told there
abbrev pub CircuitFault : ℕ → Forest → DesignFault → Type 0
CircuitFault at f e = IsFirst (Every IsUse) UseFault f e ⊎ (Every IsUse f × (collect uses_in f ≡ []) × (e ≡ told kind.Form at))

-- ---- the lists of a class

-- what a list of a class has to be, by its keyword
abbrev pub IsOfClass : LengthUnit → ClassWord → Forest → Type 0
IsOfClass u words.Circuit f = IsCircuit f
IsOfClass u words.Rules f = IsRule u f
IsOfClass u words.Other f = Unit {0}

-- a list that can stand in a class
abbrev pub IsClassList : LengthUnit → ℕ → Forest → Type 0
IsClassList u at inside = IsOfClass u (class_word (head_of inside).text) (head_of inside).args

-- what is wrong with a list of a class, by its keyword
abbrev pub OfClassFault : LengthUnit → ℕ → ClassWord → Forest → DesignFault → Type 0
OfClassFault u at words.Circuit f e = CircuitFault at f e
OfClassFault u at words.Rules f e = RuleFault u f e
OfClassFault u at words.Other f e = ⊥

-- the fault of a list of a class
abbrev pub ClassListFault : LengthUnit → Forest → ℕ → Forest → DesignFault → Type 0
ClassListFault u before at inside e = OfClassFault u at (class_word (head_of inside).text) (head_of inside).args e

-- the via lists, of a circuit
abbrev pub vias_of_list : ClassWord → Forest → List (List Mark)
vias_of_list words.Circuit f = collect uses_in f
vias_of_list _ f = []

-- the via lists that a list of a class states
abbrev pub class_vias : ℕ → Forest → List (List Mark)
class_vias at inside = vias_of_list (class_word (head_of inside).text) (head_of inside).args

-- the texts of the widths, of a rule
abbrev pub widths_of_list : ClassWord → Forest → List (Option (List ℕ))
widths_of_list words.Rules f = collect widths_in f
widths_of_list _ f = []

-- the texts of the widths that a list of a class states
abbrev pub class_widths : ℕ → Forest → List (Option (List ℕ))
class_widths at inside = widths_of_list (class_word (head_of inside).text) (head_of inside).args

-- the clearances, of a rule
abbrev pub claims_of_list : ClassWord → Forest → List Claim
claims_of_list words.Rules f = collect claims_in f
claims_of_list _ f = []

-- the clearances that a list of a class states
abbrev pub class_claims : ℕ → Forest → List Claim
class_claims at inside = claims_of_list (class_word (head_of inside).text) (head_of inside).args

-- ---- `(class <id> <net> .. ..)`

-- A class of this name with what follows it: the names of its nets, none or more, and lists. All via lists are kept, in
-- order. Of all its rules the last width holds, and the clearances are kept in order.
pub record IsNamedClass (u : LengthUnit) (name : List ℕ) (f : Forest) (c : Class) : Type 0 where
  pub formed : Every (IsClassList u) (behind_words f)
  pub name_is : c.name ≡ name
  pub nets : c.nets ≡ first_words f
  pub vias : c.vias ≡ collect class_vias (behind_words f)
  pub rule : Says u (collect class_widths (behind_words f)) (collect class_claims (behind_words f)) c.rule

-- the list, behind its keyword, is this class
abbrev pub IsClass : LengthUnit → Forest → Class → Type 0
IsClass u f c = HasWord (λ name rest. IsNamedClass u name rest c) f

-- the fault of a class: it has no name, or a list of it is at fault
abbrev pub ClassFault : LengthUnit → ℕ → Forest → DesignFault → Type 0
ClassFault u at f e = NoWordOr (λ a text rest e. IsFirst (Every (IsClassList u)) (ClassListFault u) (behind_words rest) e) at f e
