use Rattle.std.proofs.Common.{arith}
use Rattle.std.proofs.lemmas.List.Elements.{All-map}
use Rattle.seg_geometry.specs.declared.points.Pt.{Pt}
use Rattle.seg_geometry.specs.Points.{IsInRange}
use Rattle.area_geometry.specs.Copper.{moved}
use Rattle.area_geometry.proofs.Places.{moved_in_range}
use Rattle.area_geometry.proofs.limits.is_within_limits.Goals as goal

pub returns-then-s-le-WIDTH_LIMIT_NM : goal.returns-then-s-le-WIDTH_LIMIT_NM
returns-then-s-le-WIDTH_LIMIT_NM c = (
  λ r. record {
    points = All-map (λ (p : Pt). IsInRange p) (moved c.args.s.at) c.args.s.points.now (c.all_in_range.ensures.0 r);
    width = omega (arith, c.if-s-le-WIDTH_LIMIT_NM.true);
  },
  λ w. c.all_in_range.ensures.1 (λ i d h. moved_in_range c.args.s.at c.args.s.points.now i d h w.points),
)
