use Rattle.std.proofs.Common.{◌≡◌, length}
use Rattle.whole_files.proofs.Sinks.{Wrote}
use Rattle.whole_files.proofs.outside.put_out.Given as goal

abbrev pub invariant-loop-rest : goal.invariant-loop-rest
invariant-loop-rest g l = record {
  wrote : Wrote l.text l.rest (g.O.Sink.told l.initial.out).written (g.O.Sink.told l.out).written;
  faults : (g.O.Sink.told l.out).faults ≡ (g.O.Sink.told l.initial.out).faults;
  shortages : (g.O.Sink.told l.out).shortages ≡ (g.O.Sink.told l.initial.out).shortages;
}

abbrev pub decreases-loop-rest : goal.decreases-loop-rest
decreases-loop-rest g l = length l.rest
