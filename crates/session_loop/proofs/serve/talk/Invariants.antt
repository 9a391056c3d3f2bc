use Rattle.std.proofs.Common.{◌≡◌, ℕ, List, false}
use Rattle.session_loop.specs.Sessions.{IsFresh, IsShort, IsTimely}
use Rattle.session_loop.specs.Stops.{IsGoing}
use Rattle.session_loop.proofs.serve.talk.Given as goal

abbrev pub invariant-turns : goal.invariant-turns
invariant-turns g l = record {
  going : (input : List ℕ) → IsFresh input (g.L.Link.told l.fn.link) (g.K.Desk.told l.fn.desk) → IsGoing (record { client = l.client; clients = l.clients; input = input }) l.feeder l.ahead (g.K.Desk.told l.desk) (g.L.Link.told l.link);
  short : IsShort l.feeder;
  reads : (g.L.Link.told l.link).read_faults ≡ (g.L.Link.told l.fn.link).read_faults;
  writes : (g.L.Link.told l.link).write_faults ≡ (g.L.Link.told l.fn.link).write_faults;
  shortages : (g.L.Link.told l.link).shortages ≡ (g.L.Link.told l.fn.link).shortages;
  timely : IsTimely (g.L.Link.told l.fn.link) (g.L.Link.told l.link);
  here : (g.K.Desk.told l.desk).left ≡ false;
  able : (g.K.Desk.told l.desk).ran_out ≡ false;
}
