use Rattle.std.proofs.Common.{Result}
use Rattle.std.specs.Prelude.{Option}
use Rattle.answer_lines.specs.declared.answers.Goes.{Goes}
use Rattle.client_talk.specs.declared.stop.Stop.{Stop}
use Rattle.client_talk.specs.Talks.{HasTaken}
use Rattle.client_talk.proofs.Wires.{err_as}
use Rattle.client_talk.proofs.Answering.{entry_refused}
use Rattle.client_talk.proofs.take_in.take_in.Goals as goal

pub returns-in_err-follow-in-Ok : goal.returns-in_err-follow-in-Ok
returns-in_err-follow-in-Ok c =
    let stop = c.in_err-follow-in-Ok.field-0.0 in
    err_as _ stop (λ (res : Result (Option Goes) Stop). HasTaken c.args.line.now c.args.replica.now c.follow.new.replica res) c.from_residual.ensures.1
    (entry_refused c.args.line.now c.in-Ok.entry c.args.replica.now c.follow.new.replica stop c.in-Ok.ensures.found c.in_err-follow-in-Ok.ensures)
