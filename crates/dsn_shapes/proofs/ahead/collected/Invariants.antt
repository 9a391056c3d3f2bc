use Rattle.std.proofs.Common.{◌≡◌, length}
use Rattle.sexp_text.specs.Shows.{forest}
use Rattle.dsn_shapes.specs.Ahead.{names_ahead}
use Rattle.dsn_shapes.proofs.ahead.collected.Given as goal

abbrev pub invariant-lists : goal.invariant-lists
invariant-lists l = names_ahead l.keyword l.names (forest l.rest) ≡ names_ahead l.keyword l.initial.names (forest l.initial.rest)

abbrev pub decreases-lists : goal.decreases-lists
decreases-lists l = length l.rest.entries.now
