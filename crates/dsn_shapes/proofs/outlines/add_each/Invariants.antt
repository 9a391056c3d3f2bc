use Rattle.std.proofs.Common.{◌≡◌, length}
use Rattle.sexp_text.specs.Shows.{forest}
use Rattle.dsn_lists.specs.Results.{each}
use Rattle.dsn_shapes.specs.Outlines.{outline_item}
use Rattle.dsn_shapes.proofs.outlines.add_each.Given as goal

abbrev pub invariant-lists : goal.invariant-lists
invariant-lists l = each (outline_item l.unit) l.outline (forest l.rest) ≡ each (outline_item l.unit) l.initial.outline (forest l.initial.rest)

abbrev pub decreases-lists : goal.decreases-lists
decreases-lists l = length l.rest.entries.now
