use Rattle.std.proofs.Common.{◌∙◌, Err, Ok}
use Rattle.session_loop.specs.declared.end.SessionEnd.TheVariants as ends
use Rattle.session_loop.specs.Stops.{Going, Stopped, HasSaid}
use Rattle.session_wire.proofs.Halts.{err_is}
use Rattle.session_loop.proofs.Wires.{holds_then, holds_weaker}
use Rattle.session_loop.proofs.Goings.{turned, gone_on, said_stops, grew_then}
use Rattle.session_loop.proofs.Endings.{stopped_next, timely_then}
use Rattle.session_loop.proofs.serve.answer_lines.Goals as goal

pub returns-in_err-next_turn-clause-stopped : goal.returns-in_err-next_turn-clause-stopped
returns-in_err-next_turn-clause-stopped g c =
    let e = c.in_err-next_turn.ensures in
    let h = (g.K.Desk.told c.lines.desk).handed in
    let h' = (g.K.Desk.told c.next_turn.new.desk).handed in
    let old = (g.K.Desk.told c.lines.desk).answers in
    let new = (g.K.Desk.told c.next_turn.new.desk).answers in
    let writes = (g.L.Link.told c.lines.link).write_faults in
    let lacks = (g.L.Link.told c.lines.link).shortages in
    err_is _ ends.Memory _ c.from_residual.ensures.1 (λ s journal none going ext.
    holds_weaker (g.L.Link.told c.lines.link).wire (Going s c.lines.feeder c.lines.ahead h old) (Stopped s writes lacks ends.Memory new journal) (c.lines.invariant.going s going)
    (λ w here. stopped_next s c.lines.feeder c.lines.ahead h h' old new w writes lacks journal here e.grew e.at_most ext))

pub returns-in_err-say-in-Some-clause-stopped : goal.returns-in_err-say-in-Some-clause-stopped
returns-in_err-say-in-Some-clause-stopped g c =
    let e = c.in_err-say-in-Some.ensures in
    let n = c.in_ok-next_turn.ensures in
    let next = rw c.in-Some.is at n.turn in
    let end = c.in_err-say-in-Some.field-0.0 in
    let turn = c.in-Some.turn in
    let h = (g.K.Desk.told c.lines.desk).handed in
    let h' = (g.K.Desk.told c.next_turn.new.desk).handed in
    let old = (g.K.Desk.told c.lines.desk).answers in
    let new = (g.K.Desk.told c.next_turn.new.desk).answers in
    let writes = (g.L.Link.told c.lines.link).write_faults in
    let writes' = (g.L.Link.told c.say.new.link).write_faults in
    let lacks = (g.L.Link.told c.lines.link).shortages in
    let lacks' = (g.L.Link.told c.say.new.link).shortages in
    err_is _ end _ c.from_residual-in_err-say-in-Some.ensures.1 (λ s journal none going ext.
    holds_then (g.L.Link.told c.lines.link).wire (g.L.Link.told c.say.new.link).wire (Going s c.lines.feeder c.lines.ahead h old) (Stopped s writes' lacks' end new journal) (HasSaid {T = Unit {0}} turn (Err end)) (c.lines.invariant.going s going) e.said
    (λ w v here said. said_stops end s h' new w v turn writes writes' lacks lacks' journal
    (turned s c.lines.feeder c.next_turn.new.feeder c.lines.ahead c.next_turn.new.ahead h h' old new w turn here n.grew (next here.count here.ahead_of))
    said e.cause e.memory (c.lines.invariant.writes ∙ none) ext))

pub lines-preserved : goal.lines-preserved
lines-preserved g c =
    let e = c.in_ok-say-in-Some.ensures in
    let n = c.in_ok-next_turn.ensures in
    let i = c.lines.invariant in
    let next = rw c.in-Some.is at n.turn in
    let turn = c.in-Some.turn in
    let h = (g.K.Desk.told c.lines.desk).handed in
    let h' = (g.K.Desk.told c.next_turn.new.desk).handed in
    let old = (g.K.Desk.told c.lines.desk).answers in
    let new = (g.K.Desk.told c.next_turn.new.desk).answers in
    record {
      going = λ s going. holds_then (g.L.Link.told c.lines.link).wire (g.L.Link.told c.say.new.link).wire (Going s c.lines.feeder c.lines.ahead h old) (Going s c.next_turn.new.feeder c.next_turn.new.ahead h' new) (HasSaid {T = Unit {0}} turn (Ok c.in_ok-say-in-Some.field-0)) (i.going s going) e.said
          (λ w v here said. gone_on s c.lines.feeder c.next_turn.new.feeder c.lines.ahead c.next_turn.new.ahead h h' old new w v turn here n.grew (next here.count here.ahead_of) said.0 said.1);
      grew = grew_then (g.K.Desk.told c.args.desk.now).handed h h' i.grew n.grew;
      reads = e.other_count ∙ i.reads;
      writes = e.cause ∙ i.writes;
      shortages = e.memory ∙ i.shortages;
      timely = timely_then (g.L.Link.told c.args.link.now) (g.L.Link.told c.lines.link) (g.L.Link.told c.say.new.link) i.reads i.writes i.timely e.timely;
      here = n.here;
      able = n.able;
    }
