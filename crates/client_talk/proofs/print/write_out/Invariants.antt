use Rattle.std.proofs.Common.{◌≡◌, length}
use Rattle.client_talk.proofs.Prints.{Wrote}
use Rattle.client_talk.proofs.print.write_out.Given as goal

abbrev pub invariant-pieces : goal.invariant-pieces
invariant-pieces g l = record {
  wrote : Wrote l.text l.rest ((g.O.Sink.told l.initial.out).written) ((g.O.Sink.told l.out).written);
  faults : (g.O.Sink.told l.out).faults ≡ (g.O.Sink.told l.initial.out).faults;
}

abbrev pub decreases-pieces : goal.decreases-pieces
decreases-pieces g l = length l.rest
