use Rattle.std.proofs.Common.{◌≡◌, length}
use Rattle.sexp_text.specs.Shows.{forest}
use Rattle.dsn_lists.specs.Results.{each}
use Rattle.dsn_library.specs.Libraries.{stack_item}
use Rattle.dsn_library.proofs.stacks.read_lists.Given as goal

abbrev pub invariant-lists : goal.invariant-lists
invariant-lists l = each (stack_item l.unit l.layers) l.drawn (forest l.rest) ≡ each (stack_item l.unit l.layers) l.initial.drawn (forest l.initial.rest)

abbrev pub decreases-lists : goal.decreases-lists
decreases-lists l = length l.rest.entries.now
