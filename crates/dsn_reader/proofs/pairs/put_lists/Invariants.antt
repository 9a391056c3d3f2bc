use Rattle.std.proofs.Common.{◌≡◌, drop}
use Rattle.dsn_reader.specs.PairAssembly.{pairs_of_lists}
use Rattle.dsn_reader.proofs.pairs.put_lists.Given as goal

abbrev pub invariant-loop-list : goal.invariant-loop-list
invariant-loop-list l = pairs_of_lists l.known l.rows.items (drop l.list-index l.lists) ≡ pairs_of_lists l.known l.initial.rows.items l.lists
