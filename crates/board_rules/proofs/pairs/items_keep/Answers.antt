use Rattle.std.proofs.Common.{◌≤◌, ◌+◌, length, take, drop, arith, refl, sym}
use Rattle.std.specs.Prelude.{All}
use Rattle.std.proofs.lemmas.List.{take_all}
use Rattle.std.proofs.lemmas.List.Elements.{All-same}
use Rattle.area_geometry.specs.Copper.{Copper, copper_of, pieces_of}
use Rattle.area_geometry.specs.Apart.{AreShapesApart}
use Rattle.area_geometry.proofs.Places.{All-at, All-walked}
use Rattle.board_items.specs.Adds.{item_seen}
use Rattle.board_items.specs.Shapes.{copper_of_item}
use Rattle.board_items.specs.Segments.{segments_in, segments_of}
use Rattle.board_rules.proofs.Counts.{segments_left, one_less_by}
use Rattle.board_rules.proofs.pairs.items_keep.Goals as goal

pub returns-then-not-shape_clears-clause-apart : goal.returns-then-not-shape_clears-clause-apart
returns-then-not-shape_clears-clause-apart g c = (
  λ r. absurd (cc),
  λ a. c.if-not-shape_clears.ensures.apart.1
      (All-at (λ (s : Copper). All (λ t. AreShapesApart s t c.args.gap) (copper_of_item c.args.stacks.now (item_seen c.args.b))) (copper_of_item c.args.stacks.now (item_seen c.args.a)) c.loop-i.i
      (copper_of c.shape_at.result) c.shape_at.ensures a.apart),
)

pub returns-then-not-shape_clears-clause-cost : goal.returns-then-not-shape_clears-clause-cost
unfolding segments_of
returns-then-not-shape_clears-clause-cost g c =
    let shapes = copper_of_item c.args.stacks.now (item_seen c.args.a) in
    let left = segments_left shapes c.loop-i.i (copper_of c.shape_at.result) c.shape_at.ensures in
    let spent = one_less_by (segments_in (copper_of_item c.args.stacks.now (item_seen c.args.b))) c.loop-i.steps (segments_in (drop c.loop-i.i shapes)) (length (pieces_of (copper_of c.shape_at.result))) (segments_in (drop (c.loop-i.i + 1) shapes)) _ _ left c.loop-i.invariant.cost c.if-not-shape_clears.ensures.cost in
    omega (arith, spent)

pub loop-i-preserved : goal.loop-i-preserved
loop-i-preserved g c =
    let shapes = copper_of_item c.args.stacks.now (item_seen c.args.a) in
    let left = segments_left shapes c.loop-i.i (copper_of c.shape_at.result) c.shape_at.ensures in
    record {
      kept = All-walked (λ (s : Copper). All (λ t. AreShapesApart s t c.args.gap) (copper_of_item c.args.stacks.now (item_seen c.args.b))) shapes c.loop-i.i (copper_of c.shape_at.result) c.shape_at.ensures c.loop-i.invariant.kept
          (c.if-not-shape_clears.ensures.apart.0 refl);
      cost = one_less_by (segments_in (copper_of_item c.args.stacks.now (item_seen c.args.b))) c.loop-i.steps (segments_in (drop c.loop-i.i shapes)) (length (pieces_of (copper_of c.shape_at.result))) (segments_in (drop (c.loop-i.i + 1) shapes)) _ _ left c.loop-i.invariant.cost c.if-not-shape_clears.ensures.cost;
    }

pub returns-clause-apart : goal.returns-clause-apart
returns-clause-apart g c =
    let all = copper_of_item c.args.stacks.now (item_seen c.args.a) in
    let past : length all ≤ c.loop-i.i = omega (arith, c.loop-i-test.false, c.shape_count-i-end.ensures.few c.requires.a_few) in (
      λ _. record {
        apart = All-same (λ (s : Copper). All (λ t. AreShapesApart s t c.args.gap) (copper_of_item c.args.stacks.now (item_seen c.args.b))) all (take c.loop-i.i all) (sym (take_all _ _ past))
            c.loop-i.invariant.kept;
      },
      λ _. refl,
    )

pub returns-clause-cost : goal.returns-clause-cost
unfolding segments_of
returns-clause-cost g c = let all = c.loop-i.invariant.cost in omega (arith, all)
