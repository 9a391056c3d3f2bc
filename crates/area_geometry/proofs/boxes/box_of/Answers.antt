use Rattle.std.proofs.Common.{◌≡◌, ℕ, ◌+◌, ◌≤◌, length, ap, subst, ◌∙◌}
use Rattle.std.proofs.lemmas.List.{length-map}
use Rattle.std.proofs.lemmas.Option.{slice_get_within}
use Rattle.seg_geometry.proofs.Frames.{IsFrame-more, IsFrame-same, IsLeastGrown-from_frame}
use Rattle.seg_geometry.specs.Rectangles.{IsLeastGrown}
use Rattle.area_geometry.specs.Copper.{copper_of}
use Rattle.area_geometry.specs.Boxes.{half_up}
use Rattle.area_geometry.proofs.Framed.{frame_first, is_at}
use Rattle.area_geometry.proofs.boxes.box_of.Goals as goal

pub loop-i-init : goal.loop-i-init
loop-i-init c = frame_first (copper_of c.args.s).points c.point-first.result c.point-first.ensures.is

pub loop-i-preserved : goal.loop-i-preserved
loop-i-preserved c =
    let e = c.stretched-frame.ensures in
    let points = (copper_of c.args.s).points in
    let p = c.point.result in
    IsFrame-same _ _ _ _ _ _ _ _ points _ e.left e.low e.right e.high
    (IsFrame-more _ _ _ _ points c.loop-i.i p (slice_get_within points c.loop-i.i p c.point.ensures.is) (is_at points c.loop-i.i p c.point.ensures.is) c.loop-i.invariant)

pub returns : goal.returns
returns c =
    let e = c.grown.ensures in
    let d = c.div_ceil.ensures in
    let points = (copper_of c.args.s).points in
    let past : length points ≤ c.loop-i.i = rw length-map c.loop-i-test.false in
    let sum : c.div_ceil.result + c.from-2.result ≡ half_up c.args.s.width + c.args.by = λ i. (d ∙ ap half_up c.from.ensures) i + c.from-2.ensures i in
    record {
      box = subst (λ (n : ℕ). IsLeastGrown c.grown.result points n) sum
          (IsLeastGrown-from_frame _ _ _ _ points _ _ c.grown.result past c.loop-i.invariant e.left e.low e.right e.high);
    }
