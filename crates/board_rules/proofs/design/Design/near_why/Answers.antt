use Rattle.std.proofs.Common.{rules, ◌≤◌, ◌+◌, List, arith, refl, subst, inr}
use Rattle.board_items.specs.declared.items.Item.{Item}
use Rattle.board_items.specs.Adds.{item_seen}
use Rattle.board_items.specs.declared.requests.Add.{Add}
use Rattle.board_rules.specs.Costs.{pair_most}
use Rattle.board_rules.specs.Needs.{KeepsNeed}
use Rattle.board_rules.specs.Reasons.{IsNearReason}
use Rattle.board_rules.specs.Rules.{under}
use Rattle.board_rules.specs.FitAdds.{IsFitAdd}
use Rattle.board_rules.proofs.Counts.{near_left}
use Rattle.board_rules.proofs.Walked.{all_left, unwalked}
use Rattle.board_rules.proofs.design.Design.near_why.Goals as goal

pub returns-then-not-pair_keeps-clause-cost : goal.returns-then-not-pair_keeps-clause-cost
returns-then-not-pair_keeps-clause-cost g c =
    let left = near_left c.args.self.now.parts (item_seen c.args.item) c.args.others.now c.loop-other.other-index c.other-item.result c.loop-other-test.true c.other-item.is in
    let before = c.loop-other.invariant.cost in
    let one = subst (λ (i : Item). c.pair_keeps.new.steps ≤ c.loop-other.steps + pair_most c.args.self.now.parts (item_seen c.args.item) i) c.item_made.ensures c.if-not-pair_keeps.ensures.cost in
    omega (arith, left, before, one)

pub loop-other-preserved : goal.loop-other-preserved
loop-other-preserved g c =
    let left = near_left c.args.self.now.parts (item_seen c.args.item) c.args.others.now c.loop-other.other-index c.other-item.result c.loop-other-test.true c.other-item.is in
    let before = c.loop-other.invariant.cost in
    let one = subst (λ (i : Item). c.pair_keeps.new.steps ≤ c.loop-other.steps + pair_most c.args.self.now.parts (item_seen c.args.item) i) c.item_made.ensures c.if-not-pair_keeps.ensures.cost in
    let keeps = subst (λ (i : Item). KeepsNeed c.args.self.now.parts (under c.args.rules) (item_seen c.args.item) i) c.item_made.ensures (c.if-not-pair_keeps.ensures.keeps.0 refl) in
    record {
      number = search rules;
      left = all_left (IsFitAdd c.args.self.now.parts) c.args.others.now c.loop-other.other-index c.other-item.result c.loop-other-test.true c.other-item.is c.loop-other.invariant.left;
      cost = omega (arith, left, before, one);
      so_far = λ why h. c.loop-other.invariant.so_far why
          (unwalked (λ (ys : List Add). IsNearReason c.args.self.now.parts (under c.args.rules) c.args.a (item_seen c.args.item) c.loop-other.b ys why) c.args.others.now c.loop-other.other-index c.other-item.result c.loop-other-test.true c.other-item.is
          (inr (λ far. far keeps, h)));
    }
