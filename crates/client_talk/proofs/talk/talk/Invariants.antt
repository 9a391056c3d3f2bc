use Rattle.std.proofs.Common.{◌≡◌, List, ℕ, Option, Result, length}
use Rattle.layout_io.specs.Links.{Wire, Across}
use Rattle.client_replica.specs.Replicas.{Following}
use Rattle.client_talk.specs.declared.stop.Stop.{Stop}
use Rattle.client_talk.specs.Lines.{lines_of}
use Rattle.client_talk.specs.Talks.{HasTalked}
use Rattle.client_talk.proofs.talk.talk.Given as goal

-- the talk over the lines that are left is, with what was said, the talk over all
abbrev pub invariant-lines : goal.invariant-lines
invariant-lines g l = record {
  going : (new : List ℕ) (t : Following) (q : Option (List ℕ)) (res : Result (Unit {0}) Stop) (last : Option Wire)
      → Across ((g.L.Link.told l.link).wire) last (HasTalked (lines_of l.rest) l.input new l.replica t ((g.O.Sink.told l.out).written) q res)
      → Across ((g.L.Link.told l.initial.link).wire) last (HasTalked (lines_of l.text) l.initial.input new l.initial.replica t ((g.O.Sink.told l.initial.out).written) q res);
  reads : (g.L.Link.told l.link).read_faults ≡ (g.L.Link.told l.initial.link).read_faults;
  writes : (g.L.Link.told l.link).write_faults ≡ (g.L.Link.told l.initial.link).write_faults;
  faults : (g.O.Sink.told l.out).faults ≡ (g.O.Sink.told l.initial.out).faults;
}

abbrev pub decreases-lines : goal.decreases-lines
decreases-lines g l = length l.rest
