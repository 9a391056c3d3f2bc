use Rattle.std.proofs.Common.{◌≡◌}
use Rattle.layout_io.specs.Links.{Across}
use Rattle.client_talk.proofs.Hearing.{Came}
use Rattle.client_talk.proofs.hear.next_line.Given as goal

abbrev pub invariant-pieces : goal.invariant-pieces
invariant-pieces g l = record {
  came : Across ((g.L.Link.told l.initial.link).wire) ((g.L.Link.told l.link).wire) (Came l.initial.input l.input);
  reads : (g.L.Link.told l.link).read_faults ≡ (g.L.Link.told l.initial.link).read_faults;
  writes : (g.L.Link.told l.link).write_faults ≡ (g.L.Link.told l.initial.link).write_faults;
}
