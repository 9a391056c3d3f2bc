use Rattle.std.proofs.Common.{◌≡◌, length}
use Rattle.sexp_text.specs.Shows.{forest}
use Rattle.dsn_lists.specs.Results.{each}
use Rattle.dsn_structure.specs.Structures.{flip_item}
use Rattle.dsn_structure.proofs.flips.read_lists.Given as goal

abbrev pub invariant-lists : goal.invariant-lists
invariant-lists l = each flip_item l.found (forest l.rest) ≡ each flip_item l.initial.found (forest l.initial.rest)

abbrev pub decreases-lists : goal.decreases-lists
decreases-lists l = length l.rest.entries.now
