use Rattle.std.proofs.Common.{refl}
use Rattle.std.proofs.lemmas.List.{get_or_default}
use Rattle.board_rules.specs.Needs.{KeepsNeed}
use Rattle.board_rules.specs.Rules.{under}
use Rattle.number_slots.specs.Slots.{numbered}
use Rattle.check_core.proofs.Least.{kept_more, least_here}
use Rattle.check_core.proofs.nearest.first_of.Goals as goal

pub returns-then-is_too_near : goal.returns-then-is_too_near
returns-then-is_too_near g c =
    let p = c.args.design.now.parts in
    least_here (KeepsNeed p (under c.args.rules)) (numbered 1 p.items) c.args.number c.args.item.now c.args.ids.now c.loop-id.id-index _ c.requires.rising c.loop-id-test.true (get_or_default c.args.ids.now c.loop-id.id-index 0 _ c.loop-id-test.true) c.loop-id.invariant (c.if-is_too_near.ensures.near refl)

pub loop-id-preserved : goal.loop-id-preserved
loop-id-preserved g c =
    let p = c.args.design.now.parts in
    kept_more (KeepsNeed p (under c.args.rules)) (numbered 1 p.items) c.args.number c.args.item.now c.args.ids.now c.loop-id.id-index _ (get_or_default c.args.ids.now c.loop-id.id-index 0 _ c.loop-id-test.true) c.loop-id.invariant (c.if-is_too_near.ensures.kept refl)
