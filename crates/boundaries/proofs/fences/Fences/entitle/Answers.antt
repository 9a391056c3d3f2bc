use Rattle.std.proofs.Common.{ℕ, List, sym, subst}
use Rattle.boundaries.specs.Boundaries.{Boundary}
use Rattle.boundaries.specs.Marks.{AreLive}
use Rattle.boundaries.proofs.Kept.{set_entitled, live_entitled, none_entitled}
use Rattle.boundaries.proofs.fences.Fences.entitle.Goals as goal

pub invariant_of-self : goal.invariant_of-self
invariant_of-self c =
    let xs = c.self.inside.live.items in
    let here = rw c.as_slice.ensures.value at c.in-Some.ensures.some.1 in
    let same = set_entitled xs c.in-Some.i c.args.fence c.args.client c.index_mut.result.now c.entitle.new.self c.in-Some.ensures.some.0 c.self.invariant.0.rising here c.index_mut.ensures.value c.entitle.ensures in
    (subst (λ (ys : List (ℕ × Boundary)). AreLive ys c.self.inside.last) (sym same) (live_entitled xs c.self.inside.last c.args.fence c.args.client c.self.invariant.0), c.self.invariant.1)

pub returns-in-Some-clause-entitled : goal.returns-in-Some-clause-entitled
returns-in-Some-clause-entitled c =
    let here = rw c.as_slice.ensures.value at c.in-Some.ensures.some.1 in
    rw (← c.self.view_is) (set_entitled c.self.inside.live.items c.in-Some.i c.args.fence c.args.client c.index_mut.result.now c.entitle.new.self c.in-Some.ensures.some.0 c.self.invariant.0.rising here c.index_mut.ensures.value c.entitle.ensures)

pub returns-in_default-clause-entitled : goal.returns-in_default-clause-entitled
returns-in_default-clause-entitled c =
    rw (← c.self.view_is) (none_entitled c.self.inside.live.items c.args.fence c.args.client (rw c.as_slice.ensures.value at c.in_default.ensures.none))
