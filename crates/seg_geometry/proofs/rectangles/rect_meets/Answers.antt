use Rattle.std.proofs.Common.{rules, w64, FitsSigned, refl}
use Rattle.std.proofs.lemmas.Int.{to_z-of_z}
use Rattle.seg_geometry.proofs.Frames.{Meets-from_ranges, ranges_from_Meets}
use Rattle.seg_geometry.proofs.rectangles.rect_meets.Goals as goal

pub returns-then-ranges_meet : goal.returns-then-ranges_meet
returns-then-ranges_meet c =
    let a : FitsSigned w64 c.args.r.lo.x = search rules in
    let b : FitsSigned w64 c.args.r.hi.x = search rules in
    let d : FitsSigned w64 c.args.s.lo.x = search rules in
    let e : FitsSigned w64 c.args.s.hi.x = search rules in
    let a2 : FitsSigned w64 c.args.r.lo.y = search rules in
    let b2 : FitsSigned w64 c.args.r.hi.y = search rules in
    let d2 : FitsSigned w64 c.args.s.lo.y = search rules in
    let e2 : FitsSigned w64 c.args.s.hi.y = search rules in
    let across = simp to_z-of_z at (c.if-ranges_meet.ensures.0 refl) in
    let upright = simp to_z-of_z at c.ranges_meet-then-ranges_meet.ensures in
    (λ r. Meets-from_ranges c.args.r c.args.s across (upright.0 r), λ m. upright.1 (ranges_from_Meets c.args.r c.args.s m).1)

pub returns-else-ranges_meet : goal.returns-else-ranges_meet
returns-else-ranges_meet c =
    let a : FitsSigned w64 c.args.r.lo.x = search rules in
    let b : FitsSigned w64 c.args.r.hi.x = search rules in
    let d : FitsSigned w64 c.args.s.lo.x = search rules in
    let e : FitsSigned w64 c.args.s.hi.x = search rules in
    let across = simp to_z-of_z at c.ranges_meet.ensures in
    let missed = c.if-ranges_meet.false in
    (λ r. let yes = r in absurd (let opened = rw c.if-ranges_meet.false at yes in cc), λ m. across.1 (ranges_from_Meets c.args.r c.args.s m).0)
