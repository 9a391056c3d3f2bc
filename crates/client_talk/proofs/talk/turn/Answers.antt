use Rattle.std.proofs.Common.{◌≢◌, Ok, Err, Result}
use Rattle.layout_io.specs.Links.{Across}
use Rattle.session_wire.specs.Kept.{ended}
use Rattle.answer_lines.specs.declared.answers.Goes.{Goes}
use Rattle.client_talk.specs.declared.stop.Stop.{Stop}
use Rattle.client_talk.specs.Hears.{HasSaid, OutCause}
use Rattle.client_talk.specs.Lines.{bye}
use Rattle.client_talk.specs.Talks.{HasAnswer, HasTurned}
use Rattle.client_talk.proofs.Wires.{across_then, across_weaker, err_as}
use Rattle.client_talk.proofs.Hearing.{out_still}
use Rattle.client_talk.proofs.Talking.{said_stops, turned}
use Rattle.client_talk.proofs.talk.turn.Goals as goal

pub returns-in_err-say-clause-turned : goal.returns-in_err-say-clause-turned
returns-in_err-say-clause-turned g c =
    let stop = c.in_err-say.field-0.0 in
    let line = c.args.line.now in
    let old = c.args.input.now in
    let r = c.args.replica.now in
    let o = (g.O.Sink.told c.args.out.now).written in
    let u = (g.L.Link.told c.args.link.now).wire in
    let v = (g.L.Link.told c.say.new.link).wire in
    err_as _ stop (λ (res : Result Goes Stop). Across u v (HasTurned line old old r r o o res)) c.from_residual.ensures.1
    (across_weaker u v (HasSaid {T = Unit {0}} (ended line) (Err stop)) (HasTurned line old old r r o o (Err stop)) c.in_err-say.ensures.said (λ a b h. said_stops stop line old r o a b h))

pub returns-clause-turned : goal.returns-clause-turned
returns-clause-turned g c =
    let line = c.args.line.now in
    let old = c.args.input.now in
    let new = c.hear_answer.new.input in
    let r = c.args.replica.now in
    let s = c.hear_answer.new.replica in
    let o = (g.O.Sink.told c.args.out.now).written in
    let p = (g.O.Sink.told c.hear_answer.new.out).written in
    let u = (g.L.Link.told c.args.link.now).wire in
    let v = (g.L.Link.told c.say.new.link).wire in
    let w = (g.L.Link.told c.hear_answer.new.link).wire in
    let res = c.hear_answer.result in
    let apart : line ≢ bye = λ e. let t = c.if-is_bye.ensures.1 e in absurd cc in
    across_then u v w (HasSaid {T = Unit {0}} (ended line) (Ok c.in_ok-say.field-0)) (HasAnswer old new r s o p res) (HasTurned line old new r s o p res) c.in_ok-say.ensures.said c.hear_answer.ensures.answer
    (λ x y z h b. turned line old new r s o p res x y z h apart b)

pub returns-in_err-say-clause-out_cause : goal.returns-in_err-say-clause-out_cause
returns-in_err-say-clause-out_cause g c =
    let n = (g.O.Sink.told c.args.out.now).faults in
    err_as _ c.in_err-say.field-0.0 (λ (res : Result Goes Stop). OutCause n n res) c.from_residual.ensures.1 (out_still Goes c.in_err-say.field-0.0 n c.in_err-say.ensures.only)
