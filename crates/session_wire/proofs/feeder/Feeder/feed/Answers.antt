use Rattle.std.specs.Prelude.{is_ok}
use Rattle.session_wire.proofs.KeptLines.{line_if}
use Rattle.session_wire.proofs.feeder.Feeder.feed.Goals as goal

pub invariant_of-self : goal.invariant_of-self
invariant_of-self c = (c.self.invariant.0, rw c.append.ensures (line_if (is_ok c.append.result) c.self.inside.tail c.args.piece.now c.self.invariant.1 c.in-None.ensures))
