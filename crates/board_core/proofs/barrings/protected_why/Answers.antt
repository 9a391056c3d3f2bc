use Rattle.std.proofs.Common.{sym, subst, refl, ℕ}
use Rattle.std.specs.Prelude.{Option}
use Rattle.number_slots.specs.Leasts.{IsLeast}
use Rattle.board_core.specs.Barrings.{IsBarring}
use Rattle.board_core.proofs.Barring.{both_least}
use Rattle.board_core.proofs.barrings.protected_why.Goals as goal

pub returns-in_err-fence-clause-reason : goal.returns-in_err-fence-clause-reason
returns-in_err-fence-clause-reason g c =
    let S = IsBarring c.args.design.now.parts c.args.board.now c.args.client c.args.deletes.now c.args.adds.now in
    let both = both_least c.args.design.now.parts c.args.board.now c.args.client c.args.deletes.now c.args.adds.now c.deletes_bar-by_deletes.result c.adds_bar-by_adds.result c.deletes_bar-by_deletes.ensures.least c.adds_bar-by_adds.ensures.least in
    rw c.from_residual.ensures (subst (λ (r : Option ℕ). IsLeast S r) (sym c.in_err-fence.ensures) both)

pub returns-clause-reason : goal.returns-clause-reason
returns-clause-reason g c =
    let S = IsBarring c.args.design.now.parts c.args.board.now c.args.client c.args.deletes.now c.args.adds.now in
    let both = both_least c.args.design.now.parts c.args.board.now c.args.client c.args.deletes.now c.args.adds.now c.deletes_bar-by_deletes.result c.adds_bar-by_adds.result c.deletes_bar-by_deletes.ensures.least c.adds_bar-by_adds.ensures.least in
    let h = subst (λ (r : Option ℕ). IsLeast S r) (sym c.in_ok-fence.ensures) both in
    (c.in_ok-fence.fence, h.0, h.1, refl)
