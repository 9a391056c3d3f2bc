use Rattle.std.proofs.Common.{◌≤◌, ◌+◌, length, take, drop, arith, refl, sym}
use Rattle.std.proofs.lemmas.List.{take_all}
use Rattle.std.proofs.lemmas.List.Elements.{All-same}
use Rattle.area_geometry.specs.Copper.{Copper, copper_of, pieces_of}
use Rattle.area_geometry.specs.Apart.{AreShapesApart}
use Rattle.area_geometry.proofs.Places.{All-walked}
use Rattle.board_items.specs.Adds.{item_seen}
use Rattle.board_items.specs.Shapes.{copper_of_item}
use Rattle.board_items.specs.Segments.{segments_in}
use Rattle.board_rules.proofs.Counts.{segments_left, one_less}
use Rattle.board_rules.proofs.pairs.shape_clears.Goals as goal

pub returns-then-not-shape_keeps-clause-cost : goal.returns-then-not-shape_keeps-clause-cost
returns-then-not-shape_keeps-clause-cost g c =
    let shapes = copper_of_item c.args.stacks.now (item_seen c.args.b) in
    let left = segments_left shapes c.loop-j.j (copper_of c.shape_at.result) c.shape_at.ensures in
    let spent = one_less (length (pieces_of (copper_of c.args.s))) c.loop-j.steps (segments_in (drop c.loop-j.j shapes)) (length (pieces_of (copper_of c.shape_at.result))) (segments_in (drop (c.loop-j.j + 1) shapes)) _ _ left c.loop-j.invariant.cost c.if-not-shape_keeps.ensures.cost in
    omega (arith, spent)

pub loop-j-preserved : goal.loop-j-preserved
loop-j-preserved g c =
    let shapes = copper_of_item c.args.stacks.now (item_seen c.args.b) in
    let left = segments_left shapes c.loop-j.j (copper_of c.shape_at.result) c.shape_at.ensures in
    record {
      kept = All-walked (λ (t : Copper). AreShapesApart (copper_of c.args.s) t c.args.gap) shapes c.loop-j.j (copper_of c.shape_at.result) c.shape_at.ensures c.loop-j.invariant.kept (c.if-not-shape_keeps.ensures.apart.0 refl);
      cost = one_less (length (pieces_of (copper_of c.args.s))) c.loop-j.steps (segments_in (drop c.loop-j.j shapes)) (length (pieces_of (copper_of c.shape_at.result))) (segments_in (drop (c.loop-j.j + 1) shapes)) _ _ left c.loop-j.invariant.cost c.if-not-shape_keeps.ensures.cost;
    }

pub returns-clause-apart : goal.returns-clause-apart
returns-clause-apart g c =
    let all = copper_of_item c.args.stacks.now (item_seen c.args.b) in
    let past : length all ≤ c.loop-j.j = omega (arith, c.loop-j-test.false, c.shape_count-j-end.ensures.few c.requires.b_few) in (
      λ _. All-same (λ (t : Copper). AreShapesApart (copper_of c.args.s) t c.args.gap) all (take c.loop-j.j all) (sym (take_all _ _ past)) c.loop-j.invariant.kept,
      λ _. refl,
    )
