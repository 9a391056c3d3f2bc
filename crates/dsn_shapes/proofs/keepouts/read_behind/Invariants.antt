use Rattle.std.proofs.Common.{◌≡◌, length}
use Rattle.sexp_text.specs.Shows.{forest}
use Rattle.dsn_lists.specs.Results.{each}
use Rattle.dsn_shapes.specs.Keepouts.{after_item}
use Rattle.dsn_shapes.proofs.keepouts.read_behind.Given as goal

abbrev pub invariant-lists : goal.invariant-lists
invariant-lists l = each after_item tt (forest l.rest) ≡ each after_item tt (forest l.initial.rest)

abbrev pub decreases-lists : goal.decreases-lists
decreases-lists l = length l.rest.entries.now
