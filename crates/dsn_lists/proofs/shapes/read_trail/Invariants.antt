use Rattle.std.proofs.Common.{◌≡◌, length}
use Rattle.sexp_text.specs.Shows.{forest}
use Rattle.dsn_lists.specs.Results.{each}
use Rattle.dsn_lists.specs.Shapes.{trail_item}
use Rattle.dsn_lists.proofs.shapes.read_trail.Given as goal

abbrev pub invariant-lists : goal.invariant-lists
invariant-lists l = each trail_item tt (forest l.rest) ≡ each trail_item tt (forest l.initial.rest)

abbrev pub decreases-lists : goal.decreases-lists
decreases-lists l = length l.rest.entries.now
