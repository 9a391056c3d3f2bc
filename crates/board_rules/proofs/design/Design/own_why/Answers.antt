use Rattle.std.proofs.Common.{◌≡◌, ◌≤◌, ◌+◌, ◌-◌, List, length, take, drop, arith, length-drop, subst, inr, None, le_refl}
use Rattle.std.proofs.lemmas.List.{take_all}
use Rattle.board_items.specs.declared.items.Item.{Item}
use Rattle.board_items.specs.declared.requests.Add.{Add}
use Rattle.board_items.specs.Adds.{item_of_add}
use Rattle.board_rules.specs.Costs.{near_most}
use Rattle.board_rules.specs.Reasons.{IsNearReason, IsOwnReason}
use Rattle.board_rules.specs.Rules.{under}
use Rattle.board_rules.specs.FitAdds.{IsFitAdd}
use Rattle.board_rules.proofs.Counts.{own_left}
use Rattle.board_rules.proofs.Walked.{all_left, unwalked}
use Rattle.board_rules.proofs.design.Design.own_why.Goals as goal

pub returns-in-Some-clause-cost : goal.returns-in-Some-clause-cost
returns-in-Some-clause-cost g c =
    let adds = c.args.adds.now in
    let behind : take (length adds - (c.loop-i.i + 1)) (drop (c.loop-i.i + 1) adds) ≡ drop (c.loop-i.i + 1) adds = take_all _ _ (rw length-drop (le_refl _)) in
    let left = own_left c.args.self.now.parts adds c.loop-i.i c.index-adds-i.result c.loop-i-test.true c.index-adds-i.is in
    let before = c.loop-i.invariant.cost in
    let one = subst (λ (i : Item). c.near_why.new.steps ≤ c.loop-i.steps + near_most c.args.self.now.parts i (take (length adds - (c.loop-i.i + 1)) (drop (c.loop-i.i + 1) adds))) c.item_made-item.ensures c.in-Some.ensures.cost in
    let all = subst (λ (xs : List Add). c.near_why.new.steps ≤ c.loop-i.steps + near_most c.args.self.now.parts (item_of_add c.index-adds-i.result) xs) behind one in
    omega (arith, left, before, all)

pub loop-i-preserved : goal.loop-i-preserved
loop-i-preserved g c =
    let adds = c.args.adds.now in
    let behind : take (length adds - (c.loop-i.i + 1)) (drop (c.loop-i.i + 1) adds) ≡ drop (c.loop-i.i + 1) adds = take_all _ _ (rw length-drop (le_refl _)) in
    let left = own_left c.args.self.now.parts adds c.loop-i.i c.index-adds-i.result c.loop-i-test.true c.index-adds-i.is in
    let before = c.loop-i.invariant.cost in
    let one = subst (λ (i : Item). c.near_why.new.steps ≤ c.loop-i.steps + near_most c.args.self.now.parts i (take (length adds - (c.loop-i.i + 1)) (drop (c.loop-i.i + 1) adds))) c.item_made-item.ensures c.in_default.ensures.cost in
    let all = subst (λ (xs : List Add). c.near_why.new.steps ≤ c.loop-i.steps + near_most c.args.self.now.parts (item_of_add c.index-adds-i.result) xs) behind one in
    let near = subst (λ (xs : List Add). IsNearReason c.args.self.now.parts (under c.args.rules) (c.loop-i.i + 1) (item_of_add c.index-adds-i.result) (c.loop-i.i + 1 + 1) xs None) behind
    (subst (λ (i : Item). IsNearReason c.args.self.now.parts (under c.args.rules) (c.loop-i.i + 1) i (c.loop-i.i + 1 + 1) (take (length adds - (c.loop-i.i + 1)) (drop (c.loop-i.i + 1) adds)) None) c.item_made-item.ensures c.in_default.ensures.reason) in
    record {
      left = all_left (IsFitAdd c.args.self.now.parts) adds c.loop-i.i c.index-adds-i.result c.loop-i-test.true c.index-adds-i.is c.loop-i.invariant.left;
      cost = omega (arith, left, before, all);
      so_far = λ why h. c.loop-i.invariant.so_far why
          (unwalked (λ (ys : List Add). IsOwnReason c.args.self.now.parts (under c.args.rules) (c.loop-i.i + 1) ys why) adds c.loop-i.i c.index-adds-i.result c.loop-i-test.true c.index-adds-i.is (inr (near, h)));
    }
