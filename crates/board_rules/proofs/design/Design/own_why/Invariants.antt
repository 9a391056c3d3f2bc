use Rattle.std.proofs.Common.{◌≤◌, ◌+◌, drop}
use Rattle.std.specs.Prelude.{Option}
use Rattle.std.specs.List.{AllByRecursion}
use Rattle.board_items.specs.declared.history.Why.{Why}
use Rattle.board_rules.specs.Reasons.{IsOwnReason}
use Rattle.board_rules.specs.Costs.{own_most}
use Rattle.board_rules.specs.Rules.{under}
use Rattle.board_rules.specs.FitAdds.{IsFitAdd}
use Rattle.board_rules.proofs.design.Design.own_why.Given as goal

-- What the adds that are left give is what all give, and they have their part of the steps.
abbrev pub invariant-loop-i : goal.invariant-loop-i
invariant-loop-i g l = record {
  left : AllByRecursion (IsFitAdd l.self.parts) (drop l.i l.adds);
  cost : l.steps + own_most l.self.parts (drop l.i l.adds) ≤ l.initial.steps + own_most l.self.parts l.adds;
  so_far : (why : Option Why) → IsOwnReason l.self.parts (under l.rules) (l.i + 1) (drop l.i l.adds) why → IsOwnReason l.self.parts (under l.rules) 1 l.adds why;
}
