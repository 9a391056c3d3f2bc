use Rattle.std.proofs.Common.{rules, FitsSigned, ◌∙◌}
use Rattle.std.specs.Prelude.{◌+ℤ◌}
use Rattle.std.specs.Int.{w64, w128}
use Rattle.std.proofs.lemmas.Int.{to_z-of_z}
use Rattle.dsn_turns.proofs.moves.sum_of.Goals as goal

pub returns : goal.returns
returns c =
    let px : FitsSigned w64 c.args.p.x = search rules in
    let py : FitsSigned w64 c.args.p.y = search rules in
    let bx : FitsSigned w64 c.args.by.x = search rules in
    let by_ : FitsSigned w64 c.args.by.y = search rules in
    let a = c.from.ensures ∙ to_z-of_z _ _ px in
    let b = c.from-2.ensures ∙ to_z-of_z _ _ bx in
    let d = c.from-3.ensures ∙ to_z-of_z _ _ py in
    let e = c.from-4.ensures ∙ to_z-of_z _ _ by_ in
    let f : FitsSigned w128 c.from.result = search rules in
    let g : FitsSigned w128 c.from-2.result = search rules in
    let h : FitsSigned w128 c.from-3.result = search rules in
    let k : FitsSigned w128 c.from-4.result = search rules in
    let x : FitsSigned w128 (c.from.result +ℤ c.from-2.result) = search rules in
    let y : FitsSigned w128 (c.from-3.result +ℤ c.from-4.result) = search rules in
    simp (to_z-of_z _ _ f, to_z-of_z _ _ g, to_z-of_z _ _ h, to_z-of_z _ _ k, to_z-of_z _ _ x, to_z-of_z _ _ y)
    (λ i. record { x = a i +ℤ b i; y = d i +ℤ e i })
