use Rattle.std.proofs.Common.{◌≤◌, length, take, arith, refl, sym}
use Rattle.std.specs.Prelude.{All}
use Rattle.std.proofs.lemmas.List.{take_all}
use Rattle.std.proofs.lemmas.List.Elements.{All-same}
use Rattle.seg_geometry.specs.declared.points.Seg.{Seg}
use Rattle.seg_geometry.specs.Apart.{IsApart}
use Rattle.area_geometry.specs.Copper.{copper_of, pieces_of}
use Rattle.area_geometry.proofs.Places.{All-at, All-walked}
use Rattle.area_geometry.proofs.apart.pieces_keep.Goals as goal

pub returns-then-not-piece_keeps-clause-apart : goal.returns-then-not-piece_keeps-clause-apart
returns-then-not-piece_keeps-clause-apart g c = (
  λ r. absurd (cc),
  λ a. c.if-not-piece_keeps.ensures.apart.1
      (All-at (λ (s : Seg). All (λ b. IsApart s b c.args.k) (pieces_of (copper_of c.args.t))) (pieces_of (copper_of c.args.s)) c.loop-i.i c.piece.result c.piece.ensures.is a.each),
)

pub loop-i-preserved : goal.loop-i-preserved
loop-i-preserved g c = record {
  kept = All-walked (λ (s : Seg). All (λ b. IsApart s b c.args.k) (pieces_of (copper_of c.args.t))) (pieces_of (copper_of c.args.s)) c.loop-i.i c.piece.result c.piece.ensures.is c.loop-i.invariant.kept
      (c.if-not-piece_keeps.ensures.apart.0 refl);
  cost = omega (arith, c.if-not-piece_keeps.ensures.cost);
}

pub returns-clause-apart : goal.returns-clause-apart
returns-clause-apart g c =
    let past : length (pieces_of (copper_of c.args.s)) ≤ c.loop-i.i = omega (arith, c.loop-i-test.false, c.piece_count-i-end.ensures) in (
      λ _. record {
        each = All-same (λ (s : Seg). All (λ b. IsApart s b c.args.k) (pieces_of (copper_of c.args.t))) (pieces_of (copper_of c.args.s)) (take c.loop-i.i (pieces_of (copper_of c.args.s)))
            (sym (take_all _ _ past)) c.loop-i.invariant.kept;
      },
      λ _. refl,
    )
