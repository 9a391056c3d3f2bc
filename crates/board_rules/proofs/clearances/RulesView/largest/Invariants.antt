use Rattle.std.proofs.Common.{◌≡◌, max, drop}
use Rattle.board_rules.specs.Classes.{largest_rule}
use Rattle.board_rules.specs.Rules.{under}
use Rattle.board_rules.proofs.clearances.RulesView.largest.Given as goal

-- The larger of what was found and what is left is the largest of all.
abbrev pub invariant-loop-class : goal.invariant-loop-class
invariant-loop-class l = max l.most (largest_rule (drop l.class (under l.self))) ≡ largest_rule (under l.self)
