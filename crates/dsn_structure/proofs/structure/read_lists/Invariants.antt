use Rattle.std.proofs.Common.{◌≡◌, length}
use Rattle.sexp_text.specs.Shows.{forest}
use Rattle.dsn_lists.specs.Results.{each}
use Rattle.dsn_structure.specs.Structures.{structure_item}
use Rattle.dsn_structure.proofs.structure.read_lists.Given as goal

abbrev pub invariant-lists : goal.invariant-lists
invariant-lists l = each (structure_item l.unit l.layers) l.s (forest l.rest) ≡ each (structure_item l.unit l.layers) l.initial.s (forest l.initial.rest)

abbrev pub decreases-lists : goal.decreases-lists
decreases-lists l = length l.rest.entries.now
