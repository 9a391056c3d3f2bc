use Rattle.std.proofs.Common.{◌≡◌, length}
use Rattle.sexp_text.specs.Shows.{forest}
use Rattle.dsn_lists.specs.Results.{each}
use Rattle.dsn_shapes.specs.Drawn.{shape_item}
use Rattle.dsn_shapes.proofs.drawn.add_each.Given as goal

abbrev pub invariant-lists : goal.invariant-lists
invariant-lists l = each (shape_item l.unit l.layers) l.shapes (forest l.rest) ≡ each (shape_item l.unit l.layers) l.initial.shapes (forest l.initial.rest)

abbrev pub decreases-lists : goal.decreases-lists
decreases-lists l = length l.rest.entries.now
