use Rattle.std.proofs.Common.{◌≡◌, ◌≤◌, length, take, arith, refl, sym, subst, true, false}
use Rattle.std.proofs.lemmas.List.{take_all}
use Rattle.std.proofs.lemmas.List.Elements.{All-same}
use Rattle.area_geometry.specs.Copper.{Copper, copper_of}
use Rattle.area_geometry.proofs.Places.{All-walked}
use Rattle.board_items.specs.Adds.{item_seen}
use Rattle.board_items.specs.Shapes.{copper_of_item}
use Rattle.boundaries.specs.Touching.{IsTouching, TouchesArea}
use Rattle.boundaries.proofs.Segments.{shapes_left, any_at}
use Rattle.boundaries.proofs.touching.touches_area.Goals as goal

pub returns-then-shape_touches-clause-touches : goal.returns-then-shape_touches-clause-touches
returns-then-shape_touches-clause-touches g c =
    let shapes = copper_of_item c.args.stacks.now (item_seen c.args.item) in (
      λ _. record { some = any_at (IsTouching c.args.layers.now c.args.area.now) shapes c.loop-i.i (copper_of c.shape_at.result) c.shape_at.ensures (c.if-shape_touches.ensures.touches.0 refl) },
      λ _. refl,
    )

pub returns-then-shape_touches-clause-cost : goal.returns-then-shape_touches-clause-cost
returns-then-shape_touches-clause-cost g c =
    let shapes = copper_of_item c.args.stacks.now (item_seen c.args.item) in
    let left = shapes_left c.args.layers.now c.args.area.now shapes c.loop-i.i (copper_of c.shape_at.result) c.shape_at.ensures in
    omega (arith, left, c.loop-i.invariant.cost, c.if-shape_touches.ensures.cost)

pub loop-i-preserved : goal.loop-i-preserved
loop-i-preserved g c =
    let shapes = copper_of_item c.args.stacks.now (item_seen c.args.item) in
    let left = shapes_left c.args.layers.now c.args.area.now shapes c.loop-i.i (copper_of c.shape_at.result) c.shape_at.ensures in
    let not_this = λ (h : IsTouching c.args.layers.now c.args.area.now (copper_of c.shape_at.result)). let wrong : false ≡ true = c.if-shape_touches.ensures.touches.1 h in absurd cc in
    record {
      none = All-walked (λ (s : Copper). IsTouching c.args.layers.now c.args.area.now s → ⊥) shapes c.loop-i.i (copper_of c.shape_at.result) c.shape_at.ensures c.loop-i.invariant.none not_this;
      cost = omega (arith, left, c.loop-i.invariant.cost, c.if-shape_touches.ensures.cost);
    }

pub returns-clause-touches : goal.returns-clause-touches
returns-clause-touches g c =
    let all = copper_of_item c.args.stacks.now (item_seen c.args.item) in
    let past : length all ≤ c.loop-i.i = omega (arith, c.loop-i-test.false, c.shape_count-i-end.ensures.few c.requires.item_few) in
    let none = All-same (λ (s : Copper). IsTouching c.args.layers.now c.args.area.now s → ⊥) all (take c.loop-i.i all) (sym (take_all _ _ past)) c.loop-i.invariant.none in (
      λ t. absurd (cc),
      λ (t : TouchesArea all c.args.layers.now c.args.area.now). absurd (none t.some.0 t.some.1 t.some.2 (subst (IsTouching c.args.layers.now c.args.area.now) (sym t.some.3) t.some.4)),
    )

pub returns-clause-cost : goal.returns-clause-cost
returns-clause-cost g c = let all = c.loop-i.invariant.cost in omega (arith, all)
