use Rattle.std.proofs.Common.{◌≡◌, ◌≤◌, ◌+◌, drop}
use Rattle.std.specs.Prelude.{Option}
use Rattle.std.specs.List.{AllByRecursion}
use Rattle.board_items.specs.Formed.{IsFormedAdd}
use Rattle.board_items.specs.declared.history.Why.{Why}
use Rattle.board_rules.specs.Reasons.{IsAddsReason}
use Rattle.board_rules.specs.Costs.{adds_most}
use Rattle.board_rules.proofs.design.Design.adds_why.Given as goal

-- What the adds that are left give is what all give, and they have their part of the steps.
abbrev pub invariant-loop-add : goal.invariant-loop-add
invariant-loop-add g l = record {
  number : l.a ≡ l.add-index + 1;
  left : AllByRecursion IsFormedAdd (drop l.add-index l.adds);
  cost : l.steps + adds_most l.self.parts (drop l.add-index l.adds) ≤ l.initial.steps + adds_most l.self.parts l.adds;
  so_far : (why : Option Why) → IsAddsReason l.self.parts l.a (drop l.add-index l.adds) why → IsAddsReason l.self.parts 1 l.adds why;
}
