use Rattle.std.proofs.Common.{◌≡◌, drop}
use Rattle.dsn_reader.specs.PairAssembly.{pairs_among}
use Rattle.dsn_reader.proofs.pairs.put_among.Given as goal

abbrev pub invariant-loop-i : goal.invariant-loop-i
invariant-loop-i l = pairs_among l.rows.items l.stated (drop l.i l.numbers) ≡ pairs_among l.initial.rows.items l.stated l.numbers
