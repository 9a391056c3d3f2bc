use Rattle.std.proofs.Common.{◌≡◌, length}
use Rattle.sexp_text.specs.Shows.{forest}
use Rattle.dsn_lists.specs.Units.{governing}
use Rattle.dsn_lists.proofs.units.unit_for.Given as goal

abbrev pub invariant-lists : goal.invariant-lists
invariant-lists l = governing l.unit (forest l.rest) ≡ governing l.initial.unit (forest l.initial.rest)

abbrev pub decreases-lists : goal.decreases-lists
decreases-lists l = length l.rest.entries.now
