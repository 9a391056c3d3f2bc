use Rattle.std.proofs.Common.{rules, List, arith, inr}
use Rattle.board_items.specs.Formed.{IsFormedAdd}
use Rattle.board_items.specs.declared.requests.Add.{Add}
use Rattle.board_rules.specs.Reasons.{IsAddsReason}
use Rattle.board_rules.proofs.Counts.{adds_left}
use Rattle.board_rules.proofs.Walked.{all_left, unwalked}
use Rattle.board_rules.proofs.design.Design.adds_why.Goals as goal

pub returns-in-Some-clause-cost : goal.returns-in-Some-clause-cost
returns-in-Some-clause-cost g c =
    let left = adds_left c.args.self.now.parts c.args.adds.now c.loop-add.add-index c.add-item.result c.loop-add-test.true c.add-item.is in
    let before = c.loop-add.invariant.cost in
    let one = c.in-Some.ensures.cost in
    omega (arith, left, before, one)

pub loop-add-preserved : goal.loop-add-preserved
loop-add-preserved g c =
    let left = adds_left c.args.self.now.parts c.args.adds.now c.loop-add.add-index c.add-item.result c.loop-add-test.true c.add-item.is in
    let before = c.loop-add.invariant.cost in
    let one = c.in_default.ensures.cost in
    record {
      number = search rules;
      left = all_left IsFormedAdd c.args.adds.now c.loop-add.add-index c.add-item.result c.loop-add-test.true c.add-item.is c.loop-add.invariant.left;
      cost = omega (arith, left, before, one);
      so_far = λ why h. c.loop-add.invariant.so_far why
          (unwalked (λ (ys : List Add). IsAddsReason c.args.self.now.parts c.loop-add.a ys why) c.args.adds.now c.loop-add.add-index c.add-item.result c.loop-add-test.true c.add-item.is (inr (c.in_default.ensures.reason, h)));
    }
