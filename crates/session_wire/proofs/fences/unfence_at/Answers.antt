use Rattle.session_wire.proofs.Halts.{handed_count}
use Rattle.session_wire.proofs.FenceTexts.{unfence_stops, unfence_from}
use Rattle.session_wire.proofs.fences.unfence_at.Goals as goal

pub returns-in_err-fence-clause-err : goal.returns-in_err-fence-clause-err
returns-in_err-fence-clause-err c = handed_count _ c.in_err-fence.field-0.0 c.from_residual.ensures.1 (unfence_stops c.args.line.now c.in_err-fence.field-0.0 c.requires c.in_err-fence.ensures.err)

pub returns-clause-ok : goal.returns-clause-ok
returns-clause-ok c = unfence_from c.args.line.now c.in_ok-fence.fence c.in_ok-fence.rest.now c.in_ok-fence.ensures.ok
