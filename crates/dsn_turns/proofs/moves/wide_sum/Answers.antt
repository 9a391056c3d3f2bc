use Rattle.std.proofs.Common.{rules, FitsSigned, ◌∙◌}
use Rattle.std.specs.Prelude.{◌+ℤ◌}
use Rattle.std.specs.Int.{w64, w128}
use Rattle.std.proofs.lemmas.Int.{to_z-of_z}
use Rattle.dsn_turns.proofs.moves.wide_sum.Goals as goal

pub returns : goal.returns
returns c =
    let px : FitsSigned w128 c.args.p.x = search rules in
    let py : FitsSigned w128 c.args.p.y = search rules in
    let bx : FitsSigned w64 c.args.by.x = search rules in
    let by_ : FitsSigned w64 c.args.by.y = search rules in
    let b = c.from.ensures ∙ to_z-of_z _ _ bx in
    let e = c.from-2.ensures ∙ to_z-of_z _ _ by_ in
    let g : FitsSigned w128 c.from.result = search rules in
    let k : FitsSigned w128 c.from-2.result = search rules in
    let x : FitsSigned w128 (c.args.p.x +ℤ c.from.result) = search rules in
    let y : FitsSigned w128 (c.args.p.y +ℤ c.from-2.result) = search rules in
    simp (to_z-of_z _ _ px, to_z-of_z _ _ py, to_z-of_z _ _ g, to_z-of_z _ _ k, to_z-of_z _ _ x, to_z-of_z _ _ y)
    (λ i. record { x = c.args.p.x +ℤ b i; y = c.args.p.y +ℤ e i })
