use Rattle.std.proofs.Common.{get_or}
use Rattle.std.specs.Prelude.{pos}
use Rattle.std.proofs.lemmas.List.{get_or_default}
use Rattle.seg_geometry.specs.declared.points.Pt.{Pt}
use Rattle.seg_geometry.proofs.Frames.{IsFrame-more, IsFrame-same, IsLeastGrown-from_frame}
use Rattle.seg_geometry.proofs.rectangles.rect_of.Goals as goal

pub loop-p-preserved : goal.loop-p-preserved
loop-p-preserved c =
    let e = c.stretched-frame.ensures in
    let points = c.args.points.now in
    let i = c.loop-p.p-index in
    let p : Pt = get_or points i (record { x = pos 0; y = pos 0 }) in
    IsFrame-same _ _ _ _ _ _ _ _ points _ e.left e.low e.right e.high
    (IsFrame-more _ _ _ _ points i p c.loop-p-test.true (get_or_default points i _ p c.loop-p-test.true) c.loop-p.invariant)

pub returns : goal.returns
returns c =
    let e = c.grown.ensures in
    IsLeastGrown-from_frame _ _ _ _ c.args.points.now _ c.args.by c.grown.result c.loop-p-test.false c.loop-p.invariant e.left e.low e.right e.high
