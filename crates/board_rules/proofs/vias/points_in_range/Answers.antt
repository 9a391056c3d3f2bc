use Rattle.std.proofs.Common.{arith, refl, map, length, get_or, ◌≤◌}
use Rattle.std.specs.Prelude.{pos}
use Rattle.std.proofs.lemmas.List.{length-map, get_or_default}
use Rattle.seg_geometry.specs.declared.points.Pt.{Pt}
use Rattle.seg_geometry.specs.Points.{IsInRange}
use Rattle.area_geometry.specs.Copper.{moved}
use Rattle.board_rules.proofs.Walked.{all_left, all_made, one_fails, all_pass}
use Rattle.board_rules.proofs.vias.points_in_range.Goals as goal

abbrev nowhere : Pt
nowhere = record { x = pos 0; y = pos 0 }

pub returns-then-not-point_in_range : goal.returns-then-not-point_in_range
returns-then-not-point_in_range c = one_fails IsInRange (moved c.args.at) c.args.points.now c.loop-p.p-index (get_or c.args.points.now c.loop-p.p-index nowhere) c.loop-p-test.true (get_or_default c.args.points.now c.loop-p.p-index nowhere _ c.loop-p-test.true) c.if-not-point_in_range.ensures.1

pub loop-p-preserved : goal.loop-p-preserved
loop-p-preserved c = record {
  left = all_left IsInRange c.args.points.now c.loop-p.p-index (get_or c.args.points.now c.loop-p.p-index nowhere) c.loop-p-test.true (get_or_default c.args.points.now c.loop-p.p-index nowhere _ c.loop-p-test.true) c.loop-p.invariant.left;
  moved_in = all_made IsInRange (moved c.args.at) c.args.points.now c.loop-p.p-index (get_or c.args.points.now c.loop-p.p-index nowhere) c.loop-p-test.true (get_or_default c.args.points.now c.loop-p.p-index nowhere _ c.loop-p-test.true) c.loop-p.invariant.moved_in (c.if-not-point_in_range.ensures.0 refl);
}

pub returns : goal.returns
returns c =
    let past : length (map (moved c.args.at) c.args.points.now) ≤ c.loop-p.p-index = rw length-map (omega arith) in
    all_pass IsInRange (map (moved c.args.at) c.args.points.now) c.loop-p.p-index past c.loop-p.invariant.moved_in
