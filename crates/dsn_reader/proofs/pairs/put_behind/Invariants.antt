use Rattle.std.proofs.Common.{◌≡◌, drop}
use Rattle.dsn_reader.specs.PairAssembly.{pairs_behind}
use Rattle.dsn_reader.proofs.pairs.put_behind.Given as goal

abbrev pub invariant-loop-b : goal.invariant-loop-b
invariant-loop-b l = pairs_behind l.rows.items l.a l.stated (drop l.b-index l.behind) ≡ pairs_behind l.initial.rows.items l.a l.stated l.behind
