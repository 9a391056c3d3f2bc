use Rattle.std.proofs.Common.{◌≤◌, length, take, arith, refl, sym}
use Rattle.std.proofs.lemmas.List.{take_all}
use Rattle.std.proofs.lemmas.List.Elements.{All-same}
use Rattle.area_geometry.specs.Copper.{copper_of, IsWithinLimits}
use Rattle.area_geometry.proofs.Places.{All-walked}
use Rattle.board_items.specs.Adds.{item_seen}
use Rattle.board_items.specs.Shapes.{copper_of_item}
use Rattle.board_rules.proofs.fits.all_fit.Goals as goal

pub loop-i-preserved : goal.loop-i-preserved
loop-i-preserved c =
    All-walked IsWithinLimits (copper_of_item c.args.stacks.now (item_seen c.args.item)) c.loop-i.i (copper_of c.shape_at.result) c.shape_at.ensures c.loop-i.invariant (c.if-not-is_within_limits.ensures.0 refl)

pub returns : goal.returns
returns c =
    let all = copper_of_item c.args.stacks.now (item_seen c.args.item) in
    let past : length all ≤ c.loop-i.i = omega (arith, c.loop-i-test.false, c.shape_count-i-end.ensures.few c.requires) in
    λ _. All-same IsWithinLimits all (take c.loop-i.i all) (sym (take_all _ _ past)) c.loop-i.invariant
