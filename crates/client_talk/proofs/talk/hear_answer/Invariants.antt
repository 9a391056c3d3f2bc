use Rattle.std.proofs.Common.{◌≡◌, List, ℕ, Option, Result}
use Rattle.layout_io.specs.Links.{Wire, Across}
use Rattle.answer_lines.specs.declared.answers.Goes.{Goes}
use Rattle.client_replica.specs.Replicas.{Following}
use Rattle.client_talk.specs.declared.stop.Stop.{Stop}
use Rattle.client_talk.specs.Talks.{HasAnswer}
use Rattle.client_talk.proofs.talk.hear_answer.Given as goal

-- what is read from here on up to an answer is, with what was read, all up to it
abbrev pub invariant-lines : goal.invariant-lines
invariant-lines g l = record {
  going : (new : List ℕ) (t : Following) (q : Option (List ℕ)) (res : Result Goes Stop) (last : Option Wire)
      → Across ((g.L.Link.told l.link).wire) last (HasAnswer l.input new l.replica t ((g.O.Sink.told l.out).written) q res)
      → Across ((g.L.Link.told l.initial.link).wire) last (HasAnswer l.initial.input new l.initial.replica t ((g.O.Sink.told l.initial.out).written) q res);
  reads : (g.L.Link.told l.link).read_faults ≡ (g.L.Link.told l.initial.link).read_faults;
  writes : (g.L.Link.told l.link).write_faults ≡ (g.L.Link.told l.initial.link).write_faults;
  faults : (g.O.Sink.told l.out).faults ≡ (g.O.Sink.told l.initial.out).faults;
}
