use Rattle.std.proofs.Common.{◌∙◌, ℕ, List, sym, subst}
use Rattle.boundaries.specs.Boundaries.{Boundary}
use Rattle.boundaries.specs.Marks.{AreLive}
use Rattle.boundaries.proofs.Kept.{removed, live_left, none_removed, place_left}
use Rattle.boundaries.proofs.fences.Fences.unfence.Goals as goal

pub invariant_of-self : goal.invariant_of-self
invariant_of-self c =
    let xs = c.self.inside.live.items in
    let here = rw c.as_slice.ensures.value at c.in-Some.ensures.some.1 in
    let same = c.remove.ensures.items ∙ removed 1 xs c.in-Some.i c.args.fence c.in-Some.ensures.some.0 c.self.invariant.0.rising here in (
      subst (λ (ys : List (ℕ × Boundary)). AreLive ys c.self.inside.last) (sym same) (live_left xs c.self.inside.last c.args.fence c.self.invariant.0),
      place_left c.self.inside.spare _ _ _ _ c.remove.ensures.len c.remove.ensures.capacity c.self.invariant.1,
    )

pub returns-in-Some-clause-left : goal.returns-in-Some-clause-left
returns-in-Some-clause-left c =
    let here = rw c.as_slice.ensures.value at c.in-Some.ensures.some.1 in
    rw (← c.self.view_is) (c.remove.ensures.items ∙ removed 1 c.self.inside.live.items c.in-Some.i c.args.fence c.in-Some.ensures.some.0 c.self.invariant.0.rising here)

pub returns-in_default-clause-left : goal.returns-in_default-clause-left
returns-in_default-clause-left c =
    rw (← c.self.view_is) (none_removed c.self.inside.live.items c.args.fence (rw c.as_slice.ensures.value at c.in_default.ensures.none))
