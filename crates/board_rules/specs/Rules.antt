-- The untyped clearances of classes, which may change while the board is edited; in nanometres.
-- Models: the rule that a class states for all for which nothing closer is stated. Cited by `Rules` and `RulesView`
use Rattle.std.specs.Prelude.{ℕ, zero, suc, ◌≡◌, ◌<◌, ◌≤◌, Option, Some, None, List, [], ◌∷◌, length}
use Rattle.row_lists.specs.Limits.{width_limit_nm}
use Rattle.board_rules.specs.declared.clearances.RulesView.{RulesView}
use Rattle.board_rules.specs.declared.design.Parts.{Parts}

-- these rules, but this clearance for a class; of a class that isn't there nothing changes
abbrev pub with_rule : ℕ → ℕ → List (Option ℕ) → List (Option ℕ)
with_rule class clearance [] = []
with_rule zero clearance (r ∷ rest) = Some clearance ∷ rest
with_rule (suc class) clearance (r ∷ rest) = r ∷ with_rule class clearance rest

-- the rules with a change of a class to a clearance, where there is one
abbrev pub with_change : Option (ℕ × ℕ) → List (Option ℕ) → List (Option ℕ)
with_change None rules = rules
with_change (Some c) rules = with_rule c.0 c.1 rules

-- the rules that a view is of
abbrev pub under : RulesView → List (Option ℕ)
under v = with_change v.change v.rules.now

-- there is exactly one place a class
abbrev pub IsFitRules : Parts → List (Option ℕ) → Type 0
IsFitRules p rules = length rules ≡ length p.classes

-- a change is of a class that is there, to a clearance within the limit
abbrev pub IsFitChange : Parts → Option (ℕ × ℕ) → Type 0
IsFitChange p None = Unit {0}
IsFitChange p (Some c) = (c.0 < length p.classes) × (c.1 ≤ width_limit_nm)

-- the rules have one place a class, and the change, if there is one, fits
pub record IsFitView (p : Parts) (v : RulesView) : Type 0 where
  pub rules : IsFitRules p v.rules.now
  pub change : IsFitChange p v.change
