-- The widths and clearances that the lists of rules state.
-- Models: the rule, width and clearance descriptors of the SPECCTRA reference, and its clearance types of two kinds.
use Rattle.std.specs.Prelude.{◌≡◌, ℕ, ◌⊎◌, true, List, [], ◌∷◌, ◌++◌, map, codes, Option, Some, None}
use Rattle.std.specs.List.{flat_map}
use Rattle.sexp_text.specs.Forest.{Forest, End, Word, Branch}
use Rattle.sexp_text.specs.declared.units.Unit.{Unit as LengthUnit}
use Rattle.board_rules.specs.declared.design.What.{What}
use Rattle.board_rules.specs.declared.design.What.TheVariants.{Untyped}
use Rattle.board_rules.specs.declared.design.Stated.{Stated}
use Rattle.dsn_lists.specs.declared.faults.DesignFault.{DesignFault}
use Rattle.dsn_lists.specs.declared.rules.Rule.{Rule}
use Rattle.dsn_lists.specs.declared.rules.RuleWord.{RuleWord}
use Rattle.dsn_lists.specs.declared.rules.RuleWord.TheVariants as rules
use Rattle.dsn_lists.specs.Words.{same, head_of}
use Rattle.dsn_lists.specs.Rules.{rule_word}
use Rattle.dsn_lists.specs.TypeNames.{types_named}
use Rattle.dsn_lists.specs.Lists.{collect, Every, When, args_of, last_of, IsFirst}
use Rattle.dsn_lists.specs.Keyed.{HoldsWith, FaultWith, given_with}
use Rattle.dsn_lists.specs.ShortLists.{HasWord, NoWordOr, IsNameList, NameListFault}
use Rattle.dsn_lists.specs.Measures.{IsWidth, StatesWidth, WidthWordFault, IsWidthList, WidthListFault}

-- ---- `(clearance c (type t ..))`

-- a `type` list names one type or more; other lists are read over
abbrev pub IsTypeList : ℕ → Forest → Type 0
IsTypeList at inside = When (same (head_of inside).text (codes "type")) (IsNameList (head_of inside).args)

-- the fault of a `type` list
abbrev pub TypeListFault : Forest → ℕ → Forest → DesignFault → Type 0
TypeListFault before at inside e = (same (head_of inside).text (codes "type") ≡ true) × NameListFault at (head_of inside).args e

-- a clearance: a width, and lists behind it
abbrev pub IsClearance : LengthUnit → Forest → Type 0
IsClearance u f = HasWord (λ text rest. StatesWidth u text × Every IsTypeList rest) f

-- the fault of a clearance
abbrev pub ClearanceFault : LengthUnit → ℕ → Forest → DesignFault → Type 0
ClearanceFault u at f e = NoWordOr (λ a text rest e. WidthWordFault u a text e ⊎ (StatesWidth u text × IsFirst (Every IsTypeList) TypeListFault rest e)) at f e

-- what the words up to a list name
abbrev pub whats_in : Forest → List What
whats_in End = []
whats_in (Word at text rest) = types_named text ++ whats_in rest
whats_in (Branch at inside rest) = []

-- what a clearance with these `type` lists is stated for: what they name; and all for which nothing closer is stated, where
-- there is none
abbrev pub stated_by : List Forest → List What
stated_by [] = Untyped ∷ []
stated_by (t ∷ ts) = flat_map whats_in (t ∷ ts)

-- a statement: the text of a width, and what it is stated for
pub record Claim : Type 0 where
  pub what : What
  pub size : List ℕ

-- the text is stated for each of these
abbrev pub claims_for : List ℕ → List What → List Claim
claims_for text whats = map (λ what. record { what = what; size = text }) whats

-- the statements of a clearance
abbrev pub clearance_claims : Forest → List Claim
clearance_claims End = []
clearance_claims (Word at text rest) = claims_for text (stated_by (collect (args_of (codes "type")) rest))
clearance_claims (Branch at inside rest) = []

-- ---- the lists of a rule

-- what a list of a rule has to be, by its keyword
abbrev pub IsOfRule : LengthUnit → RuleWord → Forest → Type 0
IsOfRule u rules.Width f = IsWidthList u f
IsOfRule u rules.Clearance f = IsClearance u f
IsOfRule u rules.Other f = Unit {0}

-- a list that can stand in a rule
abbrev pub IsRuleList : LengthUnit → ℕ → Forest → Type 0
IsRuleList u at inside = IsOfRule u (rule_word (head_of inside).text) (head_of inside).args

-- a rule: its lists
abbrev pub IsRule : LengthUnit → Forest → Type 0
IsRule u f = Every (IsRuleList u) f

-- what is wrong with a list of a rule, by its keyword
abbrev pub OfRuleFault : LengthUnit → ℕ → RuleWord → Forest → DesignFault → Type 0
OfRuleFault u at rules.Width f e = WidthListFault u at f e
OfRuleFault u at rules.Clearance f e = ClearanceFault u at f e
OfRuleFault u at rules.Other f e = ⊥

-- the fault of a list in a rule
abbrev pub RuleListFault : LengthUnit → Forest → ℕ → Forest → DesignFault → Type 0
RuleListFault u before at inside e = OfRuleFault u at (rule_word (head_of inside).text) (head_of inside).args e

-- the first fault of a rule
abbrev pub RuleFault : LengthUnit → Forest → DesignFault → Type 0
RuleFault u f e = IsFirst (IsRule u) (RuleListFault u) f e

-- the text of a width
abbrev pub width_text : Forest → List (Option (List ℕ))
width_text End = []
width_text (Word at text rest) = Some text ∷ []
width_text (Branch at inside rest) = []

-- the text of a width, of a `width` list
abbrev pub width_stated : RuleWord → Forest → List (Option (List ℕ))
width_stated rules.Width f = width_text f
width_stated rules.Clearance f = []
width_stated rules.Other f = []

-- the text of the width that a list of a rule states
abbrev pub widths_in : ℕ → Forest → List (Option (List ℕ))
widths_in at inside = width_stated (rule_word (head_of inside).text) (head_of inside).args

-- the statements, of a `clearance` list
abbrev pub claims_stated : RuleWord → Forest → List Claim
claims_stated rules.Width f = []
claims_stated rules.Clearance f = clearance_claims f
claims_stated rules.Other f = []

-- the statements of a list of a rule
abbrev pub claims_in : ℕ → Forest → List Claim
claims_in at inside = claims_stated (rule_word (head_of inside).text) (head_of inside).args

-- ---- rules of which clearances alone are read

-- a list of such a rule: a clearance; other lists, `width` too, are read over
abbrev pub IsClearanceList : LengthUnit → ℕ → Forest → Type 0
IsClearanceList u = HoldsWith (codes "clearance") (IsClearance u)

-- the first fault of such a rule
abbrev pub ClearancesFault : LengthUnit → Forest → DesignFault → Type 0
ClearancesFault u f e = IsFirst (Every (IsClearanceList u)) (FaultWith (codes "clearance") (ClearanceFault u)) f e

-- the statements of a list of such a rule
abbrev pub clearances_in : ℕ → Forest → List Claim
clearances_in = given_with (codes "clearance") clearance_claims

-- ---- what holds

-- the width of this text, where there is one
abbrev pub IsWidthOf : LengthUnit → Option (List ℕ) → Option ℕ → Type 0
IsWidthOf u None width = width ≡ None
IsWidthOf u (Some text) width = (n : ℕ) × IsWidth u text n × (width ≡ Some n)

-- the clearances are those of the statements, one by one
abbrev pub AreStated : LengthUnit → List Claim → List Stated → Type 0
AreStated u [] ss = ss ≡ []
AreStated u (c ∷ cs) [] = ⊥
AreStated u (c ∷ cs) (s ∷ ss) = (s.what ≡ c.what) × IsWidth u c.size s.value × AreStated u cs ss

-- what rules with these widths and statements say: the last width, and the clearances in order
pub record Says (u : LengthUnit) (widths : List (Option (List ℕ))) (claims : List Claim) (r : Rule) : Type 0 where
  pub width : IsWidthOf u (last_of None widths) r.width
  pub stated : AreStated u claims r.stated
