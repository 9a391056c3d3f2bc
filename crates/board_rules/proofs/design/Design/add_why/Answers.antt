use Rattle.std.proofs.Common.{◌≤◌, ◌+◌, subst, sym}
use Rattle.board_items.specs.Adds.{item_of_add}
use Rattle.board_items.specs.declared.requests.Add.{Add}
use Rattle.board_rules.specs.Costs.{outline_most}
use Rattle.board_rules.specs.Reasons.{IsAddReason}
use Rattle.board_rules.proofs.design.Design.add_why.Goals as goal

pub returns-in-Via-clause-reason : goal.returns-in-Via-clause-reason
returns-in-Via-clause-reason g c = subst (λ (add : Add). IsAddReason c.args.self.now.parts c.args.a add c.via_why.result) (sym c.in-Via.is) c.via_why.ensures.reason

pub returns-in-Via-clause-cost : goal.returns-in-Via-clause-cost
returns-in-Via-clause-cost g c = subst (λ (add : Add). c.via_why.new.steps ≤ c.args.steps.now + outline_most c.args.self.now.parts (item_of_add add)) (sym c.in-Via.is) c.via_why.ensures.cost
