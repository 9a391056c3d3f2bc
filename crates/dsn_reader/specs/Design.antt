-- The design that a text states, and its first fault.
-- Models: the design of the SPECCTRA reference, in this profile. Cited by: `read_design`.
use Rattle.std.specs.Prelude.{◌≡◌, ◌⊎◌, ◌<◌, ◌≤◌, ℕ, List, length, Result, Ok, Err}
use Rattle.row_lists.specs.Limits.{text_limit_bytes}
use Rattle.sexp_text.specs.Forest.{Forest}
use Rattle.sexp_text.specs.Tree.{IsTree, IsFirstFault as IsFirstTextFault}
use Rattle.sexp_text.specs.declared.fault.TextFault.{TextFault}
use Rattle.sexp_text.specs.declared.fault.TextFault.TheVariants as texts
use Rattle.board_rules.specs.declared.design.Design.{Design}
use Rattle.dsn_lists.specs.declared.faults.DesignFault.{DesignFault}
use Rattle.dsn_lists.specs.declared.faults.DesignKind.TheVariants as kind
use Rattle.dsn_lists.specs.declared.faults.ReadWhy.{ReadWhy}
use Rattle.dsn_lists.specs.declared.faults.ReadWhy.TheVariants.{Fault, Memory}
use Rattle.dsn_reader.specs.Whole.{States, ListFault}

-- the most bytes that a text has
abbrev pub most_bytes : ℕ
most_bytes = text_limit_bytes

-- the text's lists and words state the design
pub record IsDesign (text : List ℕ) (d : Design) : Type 0 where
  pub short : length text ≤ most_bytes
  pub tree : Forest
  pub is_tree : IsTree text tree
  pub states : States tree d.parts

-- a text fault as the fault of a design
abbrev pub IsTextFault : TextFault → DesignFault → Type 0
IsTextFault (texts.Quote at) e = e ≡ record { kind = kind.Quote; at = at }
IsTextFault (texts.Unclosed at) e = e ≡ record { kind = kind.Unclosed; at = at }
IsTextFault (texts.Unopened at) e = e ≡ record { kind = kind.Unopened; at = at }
IsTextFault (texts.Deep at) e = e ≡ record { kind = kind.Deep; at = at }
IsTextFault texts.Memory e = ⊥

-- the text is too long
pub record IsTooLong (text : List ℕ) (e : DesignFault) : Type 0 where
  pub long : most_bytes < length text
  pub fault : e ≡ record { kind = kind.Large; at = most_bytes }

-- the text isn't a tree of lists and words
pub record HasTextFault (text : List ℕ) (e : DesignFault) : Type 0 where
  pub short : length text ≤ most_bytes
  pub why : TextFault
  pub first : IsFirstTextFault text why
  pub fault : IsTextFault why e

-- the text's lists and words have the fault
pub record HasListFault (text : List ℕ) (e : DesignFault) : Type 0 where
  pub short : length text ≤ most_bytes
  pub tree : Forest
  pub is_tree : IsTree text tree
  pub fault : ListFault tree e

-- the first fault of a text
abbrev pub IsFirstFault : List ℕ → DesignFault → Type 0
IsFirstFault text e = IsTooLong text e ⊎ (HasTextFault text e ⊎ HasListFault text e)

-- the text states a design, or it has a first fault
abbrev pub StatesOrFails : List ℕ → Type 0
StatesOrFails text = ((d : Design) × IsDesign text d) ⊎ ((e : DesignFault) × IsFirstFault text e)

-- why a text was not read: its first fault, but for want of memory
abbrev pub WhyNoDesign : List ℕ → ReadWhy → Type 0
WhyNoDesign text (Fault e) = IsFirstFault text e
WhyNoDesign text Memory = Unit {0}

-- what was returned is this design, unless memory ran out
abbrev pub IsReadAs : Result Design ReadWhy → Design → Type 0
IsReadAs (Ok x) d = x ≡ d
IsReadAs (Err (Fault e)) d = ⊥
IsReadAs (Err Memory) d = Unit {0}

-- what was returned is this fault, unless memory ran out
abbrev pub IsRefusedBy : Result Design ReadWhy → DesignFault → Type 0
IsRefusedBy (Ok x) e = ⊥
IsRefusedBy (Err (Fault f)) e = f ≡ e
IsRefusedBy (Err Memory) e = Unit {0}

-- what a text fault is told as
abbrev pub IsTextWhy : TextFault → ReadWhy → Type 0
IsTextWhy why Memory = why ≡ texts.Memory
IsTextWhy why (Fault e) = IsTextFault why e
