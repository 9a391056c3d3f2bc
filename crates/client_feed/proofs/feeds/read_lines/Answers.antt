use Rattle.std.proofs.Common.{◌≢◌, length, sym}
use Rattle.std.proofs.lemmas.Bool.{eqb-false}
use Rattle.session_wire.proofs.Halts.{err_is}
use Rattle.client_feed.proofs.Feeding.{bad_unended, why_bad}
use Rattle.client_feed.proofs.feeds.read_lines.Goals as goal

pub returns-in_default-clause-fault : goal.returns-in_default-clause-fault
returns-in_default-clause-fault c =
    let some : length c.lines.rest.now ≢ 0 = eqb-false _ _ (sym c.lines-test.ensures) in
    bad_unended c.args.bytes.now c.lines.rest.now c.lines.entries c.in_ok-number.number c.lines.invariant some c.in_default.ensures c.in_ok-number.ensures

pub returns-in_err-entry_of-clause-fault : goal.returns-in_err-entry_of-clause-fault
returns-in_err-entry_of-clause-fault c =
    let some : length c.lines.rest.now ≢ 0 = eqb-false _ _ (sym c.lines-test.ensures) in
    err_is _ c.in_err-entry_of.field-0.0 _ c.from_residual-in_err-entry_of.ensures.1 (why_bad c.in_err-entry_of.field-0.0 c.args.bytes.now c.lines.rest.now c.in-Some.line.now c.in-Some.after.now c.lines.entries c.in_ok-number.number c.lines.invariant some c.in-Some.ensures.0 c.in-Some.ensures.1 c.in_ok-number.ensures c.in_err-entry_of.ensures.fault)
