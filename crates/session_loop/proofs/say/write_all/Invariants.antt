use Rattle.std.proofs.Common.{◌≡◌, length}
use Rattle.layout_io.specs.Links.{Across}
use Rattle.session_loop.specs.Sessions.{IsTimely}
use Rattle.session_loop.proofs.Wires.{SentSome}
use Rattle.session_loop.proofs.say.write_all.Given as goal

abbrev pub invariant-pieces : goal.invariant-pieces
invariant-pieces g l = record {
  sent : Across (g.L.Link.told l.initial.link).wire (g.L.Link.told l.link).wire (SentSome l.text l.rest);
  write_faults : (g.L.Link.told l.link).write_faults ≡ (g.L.Link.told l.initial.link).write_faults;
  read_faults : (g.L.Link.told l.link).read_faults ≡ (g.L.Link.told l.initial.link).read_faults;
  shortages : (g.L.Link.told l.link).shortages ≡ (g.L.Link.told l.initial.link).shortages;
  timely : IsTimely (g.L.Link.told l.initial.link) (g.L.Link.told l.link);
}

abbrev pub decreases-pieces : goal.decreases-pieces
decreases-pieces g l = length l.rest
