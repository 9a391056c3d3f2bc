use Rattle.std.proofs.Common.{◌≡◌, length}
use Rattle.layout_io.specs.Links.{Across}
use Rattle.client_talk.proofs.Wires.{SentSome}
use Rattle.client_talk.proofs.print.write_link.Given as goal

abbrev pub invariant-pieces : goal.invariant-pieces
invariant-pieces g l = record {
  sent : Across ((g.L.Link.told l.initial.link).wire) ((g.L.Link.told l.link).wire) (SentSome l.text l.rest);
  write_faults : (g.L.Link.told l.link).write_faults ≡ (g.L.Link.told l.initial.link).write_faults;
  read_faults : (g.L.Link.told l.link).read_faults ≡ (g.L.Link.told l.initial.link).read_faults;
}

abbrev pub decreases-pieces : goal.decreases-pieces
decreases-pieces g l = length l.rest
