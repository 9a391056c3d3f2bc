use Rattle.std.proofs.Common.{Result}
use Rattle.client_talk.specs.declared.stop.Stop.{Stop}
use Rattle.client_talk.specs.declared.stop.Stop.TheVariants.{Memory}
use Rattle.client_talk.specs.Lines.{lines_of}
use Rattle.client_talk.specs.Meets.{HasSpoken}
use Rattle.client_talk.proofs.Wires.{err_as}
use Rattle.client_talk.proofs.NewReplica.{unspoken, spoken_from}
use Rattle.client_talk.proofs.meeting.meet.Goals as goal

pub returns-in_err-replica-clause-spoken : goal.returns-in_err-replica-clause-spoken
returns-in_err-replica-clause-spoken g c =
    let lines = lines_of c.args.text.now in
    let o = (g.O.Sink.told c.args.out.now).written in
    let w = (g.L.Link.told c.args.link.now).wire in
    err_as _ Memory (λ (res : Result (Unit {0}) Stop). HasSpoken {T = Unit {0}} lines c.args.design.parts o o w w res) c.from_residual.ensures.1 (unspoken lines c.args.design.parts o w)

pub returns-clause-spoken : goal.returns-clause-spoken
returns-clause-spoken g c =
    spoken_from (lines_of c.args.text.now) c.args.design.parts c.in_ok-replica.replica c.converse.new.replica (g.O.Sink.told c.args.out.now).written (g.O.Sink.told c.converse.new.out).written (g.L.Link.told c.args.link.now).wire (g.L.Link.told c.converse.new.link).wire c.converse.result c.in_ok-replica.ensures c.converse.ensures.conversed
