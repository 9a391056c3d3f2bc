use Rattle.session_wire.proofs.Halts.{handed_count}
use Rattle.session_wire.proofs.FenceTexts.{entitle_at_fence, entitle_at_client, entitle_from}
use Rattle.session_wire.proofs.fences.entitle_at.Goals as goal

pub returns-in_err-fence-clause-err : goal.returns-in_err-fence-clause-err
returns-in_err-fence-clause-err c = handed_count _ c.in_err-fence.field-0.0 c.from_residual.ensures.1 (entitle_at_fence c.args.line.now c.in_err-fence.field-0.0 c.requires c.in_err-fence.ensures.err)

pub returns-in_err-client-clause-err : goal.returns-in_err-client-clause-err
returns-in_err-client-clause-err c =
    handed_count _ c.in_err-client.field-0.0 c.from_residual-in_err-client.ensures.1 (entitle_at_client c.args.line.now c.in_ok-fence.fence c.in_ok-fence.from_client.now c.in_err-client.field-0.0 c.requires c.in_ok-fence.ensures.ok c.in_err-client.ensures.err)

pub returns-clause-ok : goal.returns-clause-ok
returns-clause-ok c = entitle_from c.args.line.now c.in_ok-fence.fence c.in_ok-client.client c.in_ok-fence.from_client.now c.in_ok-client.rest.now c.in_ok-fence.ensures.ok c.in_ok-client.ensures.ok
