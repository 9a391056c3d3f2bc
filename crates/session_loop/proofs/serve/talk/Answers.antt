use Rattle.std.proofs.Common.{◌∙◌, ℕ, List, [], Ok, subst, sym, arith}
use Rattle.layout_io.specs.Links.{IsSent}
use Rattle.session_loop.specs.Transcripts.{hello_line}
use Rattle.session_loop.specs.Sessions.{IsShort, Holds}
use Rattle.session_loop.specs.Stops.{Start, Going, HasSaid, hello_turn}
use Rattle.session_loop.proofs.Wires.{across_weaker}
use Rattle.session_loop.proofs.Endings.{greet_stops, greet_goes, timely_then}
use Rattle.session_loop.proofs.serve.talk.Goals as goal

pub returns-in-Err-clause-stopped : goal.returns-in-Err-clause-stopped
returns-in-Err-clause-stopped g c = λ input journal fresh ext.
    let e = c.in-Err.ensures in
    let s : Start = record { client = c.args.client; clients = c.args.clients; input = input } in
    greet_stops c.in-Err.end s (g.K.Desk.told c.args.desk.now).answers (g.L.Link.told c.args.link.now) (g.L.Link.told c.greet.new.link) journal fresh.wire fresh.answers e.greeted e.cause e.memory

pub turns-init : goal.turns-init
turns-init g c =
    let e = c.in_default.ensures in
    let h = (g.K.Desk.told c.args.desk.now).handed in
    let given = (g.K.Desk.told c.args.desk.now).answers in
    let before = (g.L.Link.told c.args.link.now).wire in
    let now = (g.L.Link.told c.greet.new.link).wire in
    record {
      going = λ input fresh.
          let s : Start = record { client = c.args.client; clients = c.args.clients; input = input } in
          let sent = across_weaker before now (HasSaid {T = Unit {0}} (hello_turn c.args.client c.args.clients) (Ok c.in_default.field-0)) (IsSent (hello_line c.args.client c.args.clients)) e.greeted (λ u v said. said.1) in
          subst (λ (bytes : List ℕ). Holds now (Going s bytes (record { count = 0; lines = c.new.result }) h given)) (sym c.new-feeder.ensures)
          (subst (λ (lines : List ℕ). Holds now (Going s [] (record { count = 0; lines = lines }) h given)) (sym c.new.ensures)
          (greet_goes s h given before now fresh.wire fresh.handed fresh.answers sent));
      short = subst (λ (bytes : List ℕ). IsShort bytes) (sym c.new-feeder.ensures) (tt, omega arith);
      reads = e.other_count;
      writes = e.cause;
      shortages = e.memory;
      timely = e.timely;
      here = c.requires.here;
      able = c.requires.able;
    }

pub turns-preserved : goal.turns-preserved
turns-preserved g c =
    let e = c.in_default-go_on.ensures in
    let i = c.turns.invariant in
    record {
      going = λ input fresh. e.going (record { client = c.args.client; clients = c.args.clients; input = input }) (i.going input fresh);
      short = e.short;
      reads = e.cause.0 ∙ i.reads;
      writes = e.cause.1 ∙ i.writes;
      shortages = e.memory ∙ i.shortages;
      timely = timely_then (g.L.Link.told c.args.link.now) (g.L.Link.told c.turns.link) (g.L.Link.told c.go_on.new.link) i.reads i.writes i.timely e.timely;
      here = e.here;
      able = e.able;
    }
