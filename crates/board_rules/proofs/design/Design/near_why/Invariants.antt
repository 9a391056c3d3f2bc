use Rattle.std.proofs.Common.{◌≡◌, ◌≤◌, ◌+◌, drop}
use Rattle.std.specs.Prelude.{Option}
use Rattle.std.specs.List.{AllByRecursion}
use Rattle.board_items.specs.Adds.{item_seen}
use Rattle.board_items.specs.declared.history.Why.{Why}
use Rattle.board_rules.specs.Reasons.{IsNearReason}
use Rattle.board_rules.specs.Costs.{near_most}
use Rattle.board_rules.specs.Rules.{under}
use Rattle.board_rules.specs.FitAdds.{IsFitAdd}
use Rattle.board_rules.proofs.design.Design.near_why.Given as goal

-- What the adds that are left give is what all give, and they have their part of the steps.
abbrev pub invariant-loop-other : goal.invariant-loop-other
invariant-loop-other g l = record {
  number : l.b ≡ l.a + 1 + l.other-index;
  left : AllByRecursion (IsFitAdd l.self.parts) (drop l.other-index l.others);
  cost : l.steps + near_most l.self.parts (item_seen l.item) (drop l.other-index l.others) ≤ l.initial.steps + near_most l.self.parts (item_seen l.item) l.others;
  so_far : (why : Option Why) → IsNearReason l.self.parts (under l.rules) l.a (item_seen l.item) l.b (drop l.other-index l.others) why → IsNearReason l.self.parts (under l.rules) l.a (item_seen l.item) (l.a + 1) l.others why;
}
