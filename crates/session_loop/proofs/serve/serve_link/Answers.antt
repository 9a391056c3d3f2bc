use Rattle.std.proofs.Common.{List, subst, sym}
use Rattle.board_items.specs.declared.history.Entry.{Entry}
use Rattle.desk_core.specs.declared.desk.Answer.{Answer}
use Rattle.session_loop.specs.Sessions.{Extends, HasSession}
use Rattle.session_loop.specs.Stops.{Start}
use Rattle.session_loop.proofs.Endings.{session_of, timely_end}
use Rattle.session_loop.proofs.serve.serve_link.Goals as goal

pub returns-clause-session : goal.returns-clause-session
returns-clause-session g c = λ input journal fresh ext reach.
    let t = c.talk-end.ensures in
    let end = c.talk-end.result in
    let s : Start = record { client = c.args.client; clients = c.args.clients; input = input } in
    let began : Extends (g.K.Desk.told c.talk-end.new.desk).handed journal = subst (λ (h : List Entry). Extends h journal) c.leave.ensures.handed ext in
    let given = (g.K.Desk.told c.talk-end.new.desk).answers in
    let after = g.L.Link.told c.tell_end.new.link in
    subst (λ (all : List Answer). HasSession c.args.client c.args.clients input after end all journal) (sym c.leave.ensures.answers)
    (session_of end s given journal (g.L.Link.told c.args.link.now) (g.L.Link.told c.talk-end.new.link) after fresh.reads t.cause c.tell_end.ensures.other_count (t.stopped input journal fresh began) c.tell_end.ensures.told)

pub returns-clause-timely : goal.returns-clause-timely
returns-clause-timely g c =
    let t = c.talk-end.ensures in
    let told = c.tell_end.ensures in
    timely_end c.talk-end.result (g.L.Link.told c.args.link.now) (g.L.Link.told c.talk-end.new.link) (g.L.Link.told c.tell_end.new.link) t.cause t.timely told.told told.timely
