use Rattle.std.proofs.Common.{arith, refl, sym, subst, map, length, ◌≤◌}
use Rattle.std.specs.Prelude.{All}
use Rattle.std.specs.List.{AllByRecursion}
use Rattle.std.proofs.lemmas.List.{length-map}
use Rattle.seg_geometry.specs.Points.{IsInRange}
use Rattle.area_geometry.specs.Copper.{Copper, core_points, moved, placed}
use Rattle.area_geometry.specs.declared.shapes.Shape.{Shape}
use Rattle.board_rules.proofs.Walked.{all_left, all_made, one_fails, all_pass}
use Rattle.board_rules.proofs.vias.shapes_in_range.Goals as goal

pub returns-then-not-points_in_range : goal.returns-then-not-points_in_range
returns-then-not-points_in_range c = one_fails (λ (s : Copper). All IsInRange s.points) (placed c.args.at) c.args.shapes.now c.loop-shape.shape-index c.shape-item.result c.loop-shape-test.true c.shape-item.is (λ all. c.if-not-points_in_range.ensures.1 (subst (λ ps. All IsInRange (map (moved c.args.at) ps)) (sym c.points_of.ensures) all))

pub loop-shape-preserved : goal.loop-shape-preserved
loop-shape-preserved c = record {
  left = all_left (λ (s : Shape). AllByRecursion IsInRange (core_points s.core)) c.args.shapes.now c.loop-shape.shape-index c.shape-item.result c.loop-shape-test.true c.shape-item.is c.loop-shape.invariant.left;
  placed_in = all_made (λ (s : Copper). All IsInRange s.points) (placed c.args.at) c.args.shapes.now c.loop-shape.shape-index c.shape-item.result c.loop-shape-test.true c.shape-item.is c.loop-shape.invariant.placed_in (subst (λ ps. All IsInRange (map (moved c.args.at) ps)) c.points_of.ensures (c.if-not-points_in_range.ensures.0 refl));
}

pub returns : goal.returns
returns c =
    let past : length (map (placed c.args.at) c.args.shapes.now) ≤ c.loop-shape.shape-index = rw length-map (omega arith) in
    all_pass (λ (s : Copper). All IsInRange s.points) (map (placed c.args.at) c.args.shapes.now) c.loop-shape.shape-index past c.loop-shape.invariant.placed_in
