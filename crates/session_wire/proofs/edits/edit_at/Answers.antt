use Rattle.session_wire.proofs.Halts.{handed_halt}
use Rattle.session_wire.proofs.EditTexts.{edit_at_deletes, edit_at_adds, edit_from}
use Rattle.session_wire.proofs.edits.edit_at.Goals as goal

pub returns-in_err-deletes-clause-err : goal.returns-in_err-deletes-clause-err
returns-in_err-deletes-clause-err c =
    handed_halt _ c.in_err-deletes.field-0.0 c.from_residual.ensures.1 c.in_err-deletes.ensures.err (λ left. edit_at_deletes c.args.line.now left c.requires)

pub returns-in_err-adds-clause-err : goal.returns-in_err-adds-clause-err
returns-in_err-adds-clause-err c =
    handed_halt _ c.in_err-adds.field-0.0 c.from_residual-in_err-adds.ensures.1 c.in_err-adds.ensures.err (λ left. edit_at_adds c.args.line.now c.in_ok-deletes.deletes c.in_ok-deletes.from_adds.now left c.requires c.in_ok-deletes.ensures.ok)

pub returns-clause-ok : goal.returns-clause-ok
returns-clause-ok c =
    edit_from c.args.line.now c.in_ok-deletes.deletes c.in_ok-deletes.from_adds.now c.in_ok-adds.adds c.in_ok-adds.rest.now c.in_ok-deletes.ensures.ok c.in_ok-adds.ensures.ok
