use Rattle.std.proofs.Common.{◌+◌, length, drop, arith, refl}
use Rattle.area_geometry.specs.Copper.{copper_of, pieces_of}
use Rattle.area_geometry.proofs.Places.{All-walked}
use Rattle.board_items.specs.Adds.{item_seen}
use Rattle.board_items.specs.Shapes.{copper_of_item}
use Rattle.board_items.specs.Segments.{segments_in, segments_of}
use Rattle.board_rules.specs.Costs.{edges_of}
use Rattle.board_rules.specs.Reasons.{IsInside}
use Rattle.board_rules.proofs.Counts.{segments_left, one_less_by}
use Rattle.board_rules.proofs.Walked.{all_pass}
use Rattle.board_rules.proofs.outline.lies_inside.Goals as goal

pub returns-then-not-shape_lies_inside-clause-cost : goal.returns-then-not-shape_lies_inside-clause-cost
unfolding segments_of
returns-then-not-shape_lies_inside-clause-cost g c =
    let shapes = copper_of_item c.args.stacks.now (item_seen c.args.item) in
    let left = segments_left shapes c.loop-i.i (copper_of c.shape_at.result) c.shape_at.ensures in
    let spent = one_less_by (edges_of c.args.areas.now) c.loop-i.steps (segments_in (drop c.loop-i.i shapes)) (length (pieces_of (copper_of c.shape_at.result))) (segments_in (drop (c.loop-i.i + 1) shapes)) _ _ left c.loop-i.invariant.cost c.if-not-shape_lies_inside.ensures.cost in
    omega (arith, spent)

pub loop-i-preserved : goal.loop-i-preserved
loop-i-preserved g c =
    let shapes = copper_of_item c.args.stacks.now (item_seen c.args.item) in
    let left = segments_left shapes c.loop-i.i (copper_of c.shape_at.result) c.shape_at.ensures in
    record {
      inside = All-walked (IsInside c.args.areas.now) shapes c.loop-i.i (copper_of c.shape_at.result) c.shape_at.ensures c.loop-i.invariant.inside (c.if-not-shape_lies_inside.ensures.inside.0 refl);
      cost = one_less_by (edges_of c.args.areas.now) c.loop-i.steps (segments_in (drop c.loop-i.i shapes)) (length (pieces_of (copper_of c.shape_at.result))) (segments_in (drop (c.loop-i.i + 1) shapes)) _ _ left c.loop-i.invariant.cost c.if-not-shape_lies_inside.ensures.cost;
    }

pub returns-clause-inside : goal.returns-clause-inside
returns-clause-inside g c = all_pass (IsInside c.args.areas.now) (copper_of_item c.args.stacks.now (item_seen c.args.item)) c.loop-i.i (let count = c.shape_count-i-end.ensures.few c.requires.few in omega (arith, count)) c.loop-i.invariant.inside

pub returns-clause-cost : goal.returns-clause-cost
unfolding segments_of
returns-clause-cost g c = let all = c.loop-i.invariant.cost in omega (arith, all)
