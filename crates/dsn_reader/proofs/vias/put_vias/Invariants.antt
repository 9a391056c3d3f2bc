use Rattle.std.proofs.Common.{◌≡◌, drop}
use Rattle.dsn_reader.specs.Wirings.{sorted, vias_at}
use Rattle.dsn_reader.proofs.vias.put_vias.Given as goal

abbrev pub invariant-loop-p : goal.invariant-loop-p
invariant-loop-p l = vias_at l.at (sorted l.sort) l.wiring (drop l.p-index l.points) ≡ vias_at l.at (sorted l.sort) l.initial.wiring l.points
