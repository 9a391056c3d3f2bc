use Rattle.std.proofs.Common.{List, ap, subst}
use Rattle.board_items.specs.declared.history.Call.{Call}
use Rattle.board_core.specs.Histories.{IsLegal}
use Rattle.client_desk.specs.Seats.{DeskState, desk_told}
use Rattle.serial_master.specs.Bases.{IsFresh}
use Rattle.session_server.proofs.Seating.{sat_of}
use Rattle.session_server.proofs.sit.sit_as.Goals as goal

pub returns-clause-sat : goal.returns-clause-sat
returns-clause-sat g c =
    let s = c.into_master-master.result in
    let m = c.into_master-master.ensures in
    let l = c.serve_link-end in
    let h = c.history-calls in
    sat_of c.args.master.parts g.J.Place.parts g.J.Place.clients g.J.Place.limit g.J.Place.client (g.L.Link.told c.args.link) (g.L.Link.told l.new.link) (desk_told c.new-desk.result) s l.new.desk l.result
    (record { parts_are = c.requires.parts; clients_is = c.requires.clients; limit_is = c.requires.limit; client_is = c.requires.client })
    m.seat
    (record {
      handed = m.handed;
      reaches = m.reaches;
      answers = m.answers;
      left_is = m.left;
      left = l.ensures.left;
      legal = subst (λ (calls : List Call). IsLegal s.parts s.clients s.limit calls) h.ensures.value h.ensures.legal;
      fresh = subst (λ (calls : List Call). IsFresh 1 calls) h.ensures.value (h.ensures.fresh 1);
    })
    (record {
      handed = ap (λ (x : DeskState). (desk_told x).handed) c.new-desk.ensures;
      answers = ap (λ (x : DeskState). x.answers) c.new-desk.ensures;
      session = l.ensures.session;
      cause = l.ensures.cause;
      timely = l.ensures.timely;
    })
