use Rattle.std.proofs.Common.{rules, w64, FitsSigned, ◌∙◌}
use Rattle.std.proofs.lemmas.Int.{to_z-of_z}
use Rattle.seg_geometry.proofs.rectangles.stretched.Goals as goal

pub returns-clause-left : goal.returns-clause-left
returns-clause-left c =
    let f : FitsSigned w64 c.min.result = search rules in
    let g : FitsSigned w64 c.args.r.lo.x = search rules in
    let h : FitsSigned w64 c.args.p.x = search rules in
    to_z-of_z _ _ f ∙ (simp (to_z-of_z _ _ g, to_z-of_z _ _ h) at c.min.ensures.value)

pub returns-clause-low : goal.returns-clause-low
returns-clause-low c =
    let f : FitsSigned w64 c.min-2.result = search rules in
    let g : FitsSigned w64 c.args.r.lo.y = search rules in
    let h : FitsSigned w64 c.args.p.y = search rules in
    to_z-of_z _ _ f ∙ (simp (to_z-of_z _ _ g, to_z-of_z _ _ h) at c.min-2.ensures.value)

pub returns-clause-right : goal.returns-clause-right
returns-clause-right c =
    let f : FitsSigned w64 c.max.result = search rules in
    let g : FitsSigned w64 c.args.r.hi.x = search rules in
    let h : FitsSigned w64 c.args.p.x = search rules in
    to_z-of_z _ _ f ∙ (simp (to_z-of_z _ _ g, to_z-of_z _ _ h) at c.max.ensures.value)

pub returns-clause-high : goal.returns-clause-high
returns-clause-high c =
    let f : FitsSigned w64 c.max-2.result = search rules in
    let g : FitsSigned w64 c.args.r.hi.y = search rules in
    let h : FitsSigned w64 c.args.p.y = search rules in
    to_z-of_z _ _ f ∙ (simp (to_z-of_z _ _ g, to_z-of_z _ _ h) at c.max-2.ensures.value)
