use Rattle.std.proofs.Common.{◌≡◌, ◌∙◌, Err, Ok}
use Rattle.session_loop.specs.Sessions.{IsShort, Holds, Extends}
use Rattle.session_loop.specs.Stops.{Going, Stopped, HasRead}
use Rattle.session_wire.proofs.Halts.{err_is}
use Rattle.session_loop.proofs.Wires.{on_ok_going, if_err_stopped, holds_then}
use Rattle.session_loop.proofs.Endings.{hear_stops, read_more}
use Rattle.session_loop.proofs.serve.go_on.Goals as goal

pub returns-in_err-hear-clause-stopped : goal.returns-in_err-hear-clause-stopped
returns-in_err-hear-clause-stopped g c =
    let e = c.in_err-hear.ensures in
    let end = c.in_err-hear.field-0.0 in
    let h = (g.K.Desk.told c.args.desk.now).handed in
    let given = (g.K.Desk.told c.args.desk.now).answers in
    let writes = (g.L.Link.told c.hear.new.link).write_faults in
    let lacks = (g.L.Link.told c.hear.new.link).shortages in
    err_is _ end _ c.from_residual.ensures.1 (λ s journal none short going ext.
    holds_then (g.L.Link.told c.args.link.now).wire (g.L.Link.told c.hear.new.link).wire (Going s c.args.feeder.now c.args.ahead.now h given) (Stopped s writes lacks end given journal) (HasRead {T = Unit {0}} c.args.feeder.now c.hear.new.feeder (Err end)) going e.read
    (λ w v here read. hear_stops end s c.args.feeder.now c.hear.new.feeder c.args.ahead.now h given w v writes lacks journal here short read ext))

pub returns-clause-going : goal.returns-clause-going
returns-clause-going g c =
    let e = c.in_ok-hear.ensures in
    let h = (g.K.Desk.told c.args.desk.now).handed in
    let given = (g.K.Desk.told c.args.desk.now).answers in
    on_ok_going c.answer_lines.result
    (λ s. Holds (g.L.Link.told c.args.link.now).wire (Going s c.args.feeder.now c.args.ahead.now h given))
    (λ s. Holds (g.L.Link.told c.hear.new.link).wire (Going s c.hear.new.feeder c.args.ahead.now h given))
    (λ s. Holds (g.L.Link.told c.answer_lines.new.link).wire (Going s c.answer_lines.new.feeder c.answer_lines.new.ahead (g.K.Desk.told c.answer_lines.new.desk).handed (g.K.Desk.told c.answer_lines.new.desk).answers))
    c.answer_lines.ensures.going
    (λ s going. holds_then (g.L.Link.told c.args.link.now).wire (g.L.Link.told c.hear.new.link).wire (Going s c.args.feeder.now c.args.ahead.now h given) (Going s c.hear.new.feeder c.args.ahead.now h given) (HasRead {T = Unit {0}} c.args.feeder.now c.hear.new.feeder (Ok c.in_ok-hear.field-0)) going e.read
    (λ w v here read. read_more s c.args.feeder.now c.hear.new.feeder c.args.ahead.now h given w v here read.0 read.1))

pub returns-clause-stopped : goal.returns-clause-stopped
returns-clause-stopped g c =
    let e = c.in_ok-hear.ensures in
    let h = (g.K.Desk.told c.args.desk.now).handed in
    let given = (g.K.Desk.told c.args.desk.now).answers in
    if_err_stopped c.answer_lines.result
    (λ s. Holds (g.L.Link.told c.args.link.now).wire (Going s c.args.feeder.now c.args.ahead.now h given))
    (λ s. Holds (g.L.Link.told c.hear.new.link).wire (Going s c.hear.new.feeder c.args.ahead.now h given))
    ((g.L.Link.told c.args.link.now).write_faults ≡ 0) ((g.L.Link.told c.hear.new.link).write_faults ≡ 0) (IsShort c.args.feeder.now)
    (λ journal. Extends (g.K.Desk.told c.answer_lines.new.desk).handed journal)
    (λ end s journal. Holds (g.L.Link.told c.answer_lines.new.link).wire (Stopped s (g.L.Link.told c.answer_lines.new.link).write_faults (g.L.Link.told c.answer_lines.new.link).shortages end (g.K.Desk.told c.answer_lines.new.desk).answers journal))
    c.answer_lines.ensures.stopped (λ none. e.other_count ∙ none)
    (λ s going. holds_then (g.L.Link.told c.args.link.now).wire (g.L.Link.told c.hear.new.link).wire (Going s c.args.feeder.now c.args.ahead.now h given) (Going s c.hear.new.feeder c.args.ahead.now h given) (HasRead {T = Unit {0}} c.args.feeder.now c.hear.new.feeder (Ok c.in_ok-hear.field-0)) going e.read
    (λ w v here read. read_more s c.args.feeder.now c.hear.new.feeder c.args.ahead.now h given w v here read.0 read.1))
