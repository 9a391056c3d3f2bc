use Rattle.std.proofs.Common.{◌≡◌, length, false}
use Rattle.session_loop.specs.Turns.{Grew}
use Rattle.session_loop.specs.Sessions.{IsTimely}
use Rattle.session_loop.specs.Stops.{Start, IsGoing}
use Rattle.session_loop.proofs.serve.answer_lines.Given as goal

abbrev pub invariant-lines : goal.invariant-lines
invariant-lines g l = record {
  going : (s : Start) → IsGoing s l.initial.feeder l.initial.ahead (g.K.Desk.told l.initial.desk) (g.L.Link.told l.initial.link) → IsGoing s l.feeder l.ahead (g.K.Desk.told l.desk) (g.L.Link.told l.link);
  grew : Grew (g.K.Desk.told l.initial.desk).handed (g.K.Desk.told l.desk).handed;
  reads : (g.L.Link.told l.link).read_faults ≡ (g.L.Link.told l.initial.link).read_faults;
  writes : (g.L.Link.told l.link).write_faults ≡ (g.L.Link.told l.initial.link).write_faults;
  shortages : (g.L.Link.told l.link).shortages ≡ (g.L.Link.told l.initial.link).shortages;
  timely : IsTimely (g.L.Link.told l.initial.link) (g.L.Link.told l.link);
  here : (g.K.Desk.told l.desk).left ≡ false;
  able : (g.K.Desk.told l.desk).ran_out ≡ false;
}

abbrev pub decreases-lines : goal.decreases-lines
decreases-lines g l = length l.feeder
