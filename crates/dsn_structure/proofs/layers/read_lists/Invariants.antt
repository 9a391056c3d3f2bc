use Rattle.std.proofs.Common.{◌≡◌, length}
use Rattle.sexp_text.specs.Shows.{forest}
use Rattle.dsn_lists.specs.Results.{each}
use Rattle.dsn_structure.specs.Structures.{type_item}
use Rattle.dsn_structure.proofs.layers.read_lists.Given as goal

abbrev pub invariant-lists : goal.invariant-lists
invariant-lists l = each type_item l.typed (forest l.rest) ≡ each type_item l.initial.typed (forest l.initial.rest)

abbrev pub decreases-lists : goal.decreases-lists
decreases-lists l = length l.rest.entries.now
