use Rattle.std.proofs.Common.{◌≤◌, List, length, arith, sym, ap, ◌∙◌}
use Rattle.std.specs.List.{count_by}
use Rattle.std.proofs.lemmas.List.{take_all}
use Rattle.seg_geometry.specs.declared.points.Seg.{Seg}
use Rattle.area_geometry.specs.Copper.{copper_of, pieces_of}
use Rattle.area_geometry.specs.Rings.{counts}
use Rattle.area_geometry.proofs.Crossings.{counted_more, counted_same, odd_iff}
use Rattle.area_geometry.proofs.PieceLists.{area_pieces}
use Rattle.area_geometry.proofs.rings.holds.Goals as goal
use Rattle.area_geometry.proofs.rings.holds.Goals.{then-crosses, else-crosses}

pub loop-i-preserved : goal.loop-i-preserved
loop-i-preserved c =
    elim c.if-crosses.branch [
      | then-crosses w ↦ record {
        counted = w.crossed-is ∙ counted_more (counts c.args.v) (pieces_of (copper_of c.args.area)) c.loop-i.i c.piece.result c.loop-i.crossed c.piece.ensures.is (sym c.crosses.ensures ∙ w.if-crosses.true) c.loop-i.invariant.counted;
        bound = omega (arith, w.crossed-is, c.loop-i.invariant.bound);
      }
      | else-crosses w ↦ record {
        counted = w.crossed-is ∙ counted_same (counts c.args.v) (pieces_of (copper_of c.args.area)) c.loop-i.i c.piece.result c.loop-i.crossed c.piece.ensures.is (sym c.crosses.ensures ∙ w.if-crosses.false) c.loop-i.invariant.counted;
        bound = omega (arith, w.crossed-is, c.loop-i.invariant.bound);
      }
    ]

pub returns : goal.returns
returns c =
    let past : length (pieces_of (copper_of c.args.area)) ≤ c.loop-i.i = omega (arith, c.loop-i-test.false, c.piece_count-i-end.ensures) in
    odd_iff c.loop-i.crossed _
    (c.loop-i.invariant.counted ∙ ap (λ (es : List Seg). count_by (counts c.args.v) es) (take_all c.loop-i.i _ past ∙ area_pieces (copper_of c.args.area) c.requires.is_area))
