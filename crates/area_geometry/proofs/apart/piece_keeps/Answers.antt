use Rattle.std.proofs.Common.{◌≤◌, length, take, arith, refl, sym}
use Rattle.std.proofs.lemmas.List.{take_all}
use Rattle.std.proofs.lemmas.List.Elements.{All-same}
use Rattle.seg_geometry.specs.declared.points.Seg.{Seg}
use Rattle.seg_geometry.specs.Apart.{IsApart}
use Rattle.area_geometry.specs.Copper.{copper_of, pieces_of}
use Rattle.area_geometry.proofs.Places.{All-walked}
use Rattle.area_geometry.proofs.apart.piece_keeps.Goals as goal

pub loop-j-preserved : goal.loop-j-preserved
loop-j-preserved g c = record {
  kept = All-walked (λ (b : Seg). IsApart c.args.piece b c.args.k) (pieces_of (copper_of c.args.t)) c.loop-j.j c.piece.result c.piece.ensures.is c.loop-j.invariant.kept
      (c.if-not-seg_keeps.ensures.apart.0 refl);
  cost = omega (arith, c.if-not-seg_keeps.ensures.cost);
}

pub returns-clause-apart : goal.returns-clause-apart
returns-clause-apart g c =
    let past : length (pieces_of (copper_of c.args.t)) ≤ c.loop-j.j = omega (arith, c.loop-j-test.false, c.piece_count-j-end.ensures) in (
      λ _. All-same (λ (b : Seg). IsApart c.args.piece b c.args.k) (pieces_of (copper_of c.args.t)) (take c.loop-j.j (pieces_of (copper_of c.args.t))) (sym (take_all _ _ past)) c.loop-j.invariant.kept,
      λ _. refl,
    )
