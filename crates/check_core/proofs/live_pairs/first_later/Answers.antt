use Rattle.std.proofs.Common.{◌≤◌, ◌+◌, get_or, refl, arith}
use Rattle.std.proofs.lemmas.List.{get_or_default}
use Rattle.std.proofs.lemmas.List.Elements.{Contains-get_or}
use Rattle.board_rules.specs.Needs.{KeepsNeed}
use Rattle.board_rules.specs.Rules.{under}
use Rattle.number_slots.specs.Sums.{sum_between}
use Rattle.check_core.specs.NearCosts.{near_pair_most, from_on}
use Rattle.check_core.proofs.Least.{kept_more, least_here}
use Rattle.check_core.proofs.Tested.{bounded_more, bounded_all}
use Rattle.check_core.proofs.live_pairs.first_later.Goals as goal

pub returns-then-is_later_near-clause-least : goal.returns-then-is_later_near-clause-least
returns-then-is_later_near-clause-least g c =
    let p = c.args.design.now.parts in
    least_here (KeepsNeed p (under c.args.rules)) c.args.board.now.live c.args.number c.args.item.now c.args.ids.now c.loop-id.id-index _ c.requires.rising c.loop-id-test.true (get_or_default c.args.ids.now c.loop-id.id-index 0 _ c.loop-id-test.true) c.loop-id.invariant.kept (c.if-is_later_near.ensures.near refl)

pub returns-then-is_later_near-clause-cost : goal.returns-then-is_later_near-clause-cost
returns-then-is_later_near-clause-cost g c =
    let p = c.args.design.now.parts in
    let w = near_pair_most p c.args.by c.args.item.now in
    let live = from_on (c.args.number + 1) c.args.board.now.live in
    let ids = c.args.ids.now in
    let i = c.loop-id.id-index in
    let same = c.requires.near (get_or ids i 0) (Contains-get_or ids i 0 c.loop-id-test.true) in
    let spent : c.is_later_near.new.steps ≤ c.loop-id.steps + sum_between w (get_or ids i 0) (get_or ids i 0 + 1) live = omega (arith, same, c.is_later_near.ensures.cost) in
    bounded_all w 0 live ids (i + 1) c.args.steps.now c.is_later_near.new.steps (bounded_more w 0 live ids i 0 c.args.steps.now c.loop-id.steps c.is_later_near.new.steps c.requires.rising c.loop-id-test.true c.loop-id.invariant.cost spent)

pub loop-id-preserved : goal.loop-id-preserved
loop-id-preserved g c =
    let p = c.args.design.now.parts in
    let w = near_pair_most p c.args.by c.args.item.now in
    let live = from_on (c.args.number + 1) c.args.board.now.live in
    let ids = c.args.ids.now in
    let i = c.loop-id.id-index in
    let same = c.requires.near (get_or ids i 0) (Contains-get_or ids i 0 c.loop-id-test.true) in
    let spent : c.is_later_near.new.steps ≤ c.loop-id.steps + sum_between w (get_or ids i 0) (get_or ids i 0 + 1) live = omega (arith, same, c.is_later_near.ensures.cost) in record {
      kept = kept_more (KeepsNeed p (under c.args.rules)) c.args.board.now.live c.args.number c.args.item.now ids i _ (get_or_default ids i 0 _ c.loop-id-test.true) c.loop-id.invariant.kept (c.if-is_later_near.ensures.kept refl);
      cost = bounded_more w 0 live ids i 0 c.args.steps.now c.loop-id.steps c.is_later_near.new.steps c.requires.rising c.loop-id-test.true c.loop-id.invariant.cost spent;
    }

pub returns-clause-cost : goal.returns-clause-cost
returns-clause-cost g c =
    bounded_all (near_pair_most c.args.design.now.parts c.args.by c.args.item.now) 0 (from_on (c.args.number + 1) c.args.board.now.live) c.args.ids.now c.loop-id.id-index c.args.steps.now c.loop-id.steps c.loop-id.invariant.cost
