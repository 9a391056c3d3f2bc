use Rattle.std.proofs.Common.{◌≡◌, length}
use Rattle.sexp_text.specs.Shows.{forest}
use Rattle.dsn_lists.specs.Results.{each}
use Rattle.dsn_library.specs.Libraries.{library_item}
use Rattle.dsn_library.proofs.library.read_lists.Given as goal

abbrev pub invariant-lists : goal.invariant-lists
invariant-lists l = each (library_item l.unit l.layers l.stacks) l.library (forest l.rest) ≡ each (library_item l.unit l.layers l.stacks) l.initial.library (forest l.initial.rest)

abbrev pub decreases-lists : goal.decreases-lists
decreases-lists l = length l.rest.entries.now
