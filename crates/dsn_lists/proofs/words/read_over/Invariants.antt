use Rattle.std.proofs.Common.{◌≡◌, length}
use Rattle.sexp_text.specs.Shows.{forest}
use Rattle.dsn_lists.specs.Results.{each}
use Rattle.dsn_lists.specs.Words.{spare_list}
use Rattle.dsn_lists.proofs.words.read_over.Given as goal

abbrev pub invariant-lists : goal.invariant-lists
invariant-lists l = each spare_list tt (forest l.rest) ≡ each spare_list tt (forest l.initial.rest)

abbrev pub decreases-lists : goal.decreases-lists
decreases-lists l = length l.rest.entries.now
