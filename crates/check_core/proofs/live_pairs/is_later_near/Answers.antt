use Rattle.std.proofs.Common.{◌+◌, [], subst, arith}
use Rattle.std.specs.Prelude.{IsTrue, ◌↔◌}
use Rattle.board_items.specs.declared.items.Item.{Item}
use Rattle.board_rules.specs.Costs.{pair_most}
use Rattle.board_rules.specs.Rules.{under}
use Rattle.board_core.specs.Edits.{IsNear}
use Rattle.check_core.proofs.Paired.{later_near, later_kept, sum_from}
use Rattle.check_core.proofs.live_pairs.is_later_near.Goals as goal

pub returns-clause-near : goal.returns-clause-near
returns-clause-near g c =
    later_near c.args.design.now.parts (under c.args.rules) c.args.board.now.live c.args.number c.args.id c.args.item.now c.is_near_live.result c.if-id-number.false
    (subst (λ (i : Item). IsTrue c.is_near_live.result ↔ IsNear c.args.design.now.parts (under c.args.rules) c.args.board.now.live [] i c.args.id) c.view.ensures c.is_near_live.ensures.near)

pub returns-clause-kept : goal.returns-clause-kept
returns-clause-kept g c =
    later_kept c.args.design.now.parts (under c.args.rules) c.args.board.now.live c.args.number c.args.id c.args.item.now c.is_near_live.result
    (subst (λ (i : Item). IsTrue c.is_near_live.result ↔ IsNear c.args.design.now.parts (under c.args.rules) c.args.board.now.live [] i c.args.id) c.view.ensures c.is_near_live.ensures.near)

pub returns-clause-cost : goal.returns-clause-cost
returns-clause-cost g c =
    let taken = rw c.view.ensures at c.is_near_live.ensures.cost in
    let later = c.if-id-number.false in
    let same = sum_from (pair_most c.args.design.now.parts c.args.item.now) (c.args.number + 1) c.args.id c.args.board.now.live (omega (arith, later)) in omega (arith, taken, same)
