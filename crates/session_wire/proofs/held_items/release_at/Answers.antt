use Rattle.session_wire.proofs.Halts.{handed_count}
use Rattle.session_wire.proofs.HeldTexts.{release_stops, release_from}
use Rattle.session_wire.proofs.held_items.release_at.Goals as goal

pub returns-in_err-id-clause-err : goal.returns-in_err-id-clause-err
returns-in_err-id-clause-err c = handed_count _ c.in_err-id.field-0.0 c.from_residual.ensures.1 (release_stops c.args.line.now c.in_err-id.field-0.0 c.requires c.in_err-id.ensures.err)

pub returns-clause-ok : goal.returns-clause-ok
returns-clause-ok c = release_from c.args.line.now c.in_ok-id.id c.in_ok-id.rest.now c.in_ok-id.ensures.ok
