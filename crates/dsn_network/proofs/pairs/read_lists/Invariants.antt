use Rattle.std.proofs.Common.{◌≡◌, length}
use Rattle.sexp_text.specs.Shows.{forest}
use Rattle.dsn_lists.specs.Results.{each}
use Rattle.dsn_network.specs.ClassPairings.{pair_item}
use Rattle.dsn_network.proofs.pairs.read_lists.Given as goal

abbrev pub invariant-lists : goal.invariant-lists
invariant-lists l = each (pair_item l.unit) l.pairs (forest l.rest) ≡ each (pair_item l.unit) l.initial.pairs (forest l.initial.rest)

abbrev pub decreases-lists : goal.decreases-lists
decreases-lists l = length l.rest.entries.now
