use Rattle.std.proofs.Common.{refl, inl, inr, subst, List, ℕ}
use Rattle.std.specs.Prelude.{Some, None}
use Rattle.number_slots.specs.Leasts.{IsLeast}
use Rattle.boundaries.specs.Boundaries.{Boundary}
use Rattle.boundaries.specs.Touching.{IsOverlapped}
use Rattle.board_core.proofs.covers.fence_why.Goals as goal

pub returns-in-Some-clause-reason : goal.returns-in-Some-clause-reason
returns-in-Some-clause-reason g c =
    let h = subst (λ (fs : List (ℕ × Boundary)). IsLeast (IsOverlapped fs c.args.layers.now c.args.area.now c.args.client) (Some c.in-Some.fence)) c.fences.ensures.fences c.in-Some.ensures.least in
    inl (refl, (c.in-Some.fence, h.0, h.1, refl))

pub returns-in_err-id-clause-reason : goal.returns-in_err-id-clause-reason
returns-in_err-id-clause-reason g c =
    let none = subst (λ (fs : List (ℕ × Boundary)). IsLeast (IsOverlapped fs c.args.layers.now c.args.area.now c.args.client) None) c.fences.ensures.fences c.in_default.ensures.least in
    rw c.from_residual.ensures (inr (none, c.in_err-id.ensures.least))

pub returns-clause-reason : goal.returns-clause-reason
returns-clause-reason g c =
    let none = subst (λ (fs : List (ℕ × Boundary)). IsLeast (IsOverlapped fs c.args.layers.now c.args.area.now c.args.client) None) c.fences.ensures.fences c.in_default.ensures.least in
    let h = c.in_ok-id.ensures.least in
    inr (none, (c.in_ok-id.id, h.0, h.1, refl))
