use Rattle.std.proofs.Common.{ℕ, ap, arith}
use Rattle.std.specs.Prelude.{Option}
use Rattle.board_items.specs.declared.items.Item.{Item}
use Rattle.board_rules.specs.Needs.{KeepsNeed}
use Rattle.board_rules.specs.Rules.{under}
use Rattle.check_core.specs.Nearest.{IsLeastOf, Each}
use Rattle.board_core.proofs.Near.{fit_at}
use Rattle.check_core.specs.NearCosts.{near_pairs_most}
use Rattle.check_core.proofs.Paired.{from_at, from_none, told_each, there_each}
use Rattle.check_core.proofs.live_pairs.nearest_at.Goals as goal

pub nearest_live-requires-clause-item_fits : goal.nearest_live-requires-clause-item_fits
nearest_live-requires-clause-item_fits g c = fit_at c.args.design.now.parts c.args.board.now.live c.args.number c.in-Some.item.now c.requires.board.fit c.in-Some.ensures.some

pub returns-in-None-clause-cost : goal.returns-in-None-clause-cost
returns-in-None-clause-cost g c =
    let same = ap (near_pairs_most c.args.design.now.parts c.args.by) (from_none c.args.number c.args.board.now.live c.in-None.ensures.none) in omega (arith, same)

pub returns-in-Some-clause-least : goal.returns-in-Some-clause-least
returns-in-Some-clause-least g c =
    told_each (λ (x : Item) (best : Option ℕ). IsLeastOf (KeepsNeed c.args.design.now.parts (under c.args.rules)) c.args.board.now.live c.args.number x Each best) c.args.board.now.live c.args.number c.in-Some.item.now c.nearest_live.result c.in-Some.ensures.only c.nearest_live.ensures.least

pub returns-in-Some-clause-there : goal.returns-in-Some-clause-there
returns-in-Some-clause-there g c = there_each c.args.board.now.live c.args.number c.nearest_live.result (c.in-Some.item.now, c.in-Some.ensures.some)

pub returns-in-Some-clause-cost : goal.returns-in-Some-clause-cost
returns-in-Some-clause-cost g c =
    let cut = ap (near_pairs_most c.args.design.now.parts c.args.by) (from_at 1 c.args.number c.args.board.now.live c.in-Some.item.now c.next_id-next.ensures.rising c.in-Some.ensures.some) in
    omega (arith, cut, c.nearest_live.ensures.cost)
