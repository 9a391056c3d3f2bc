use Rattle.std.proofs.Common.{◌≡◌, length}
use Rattle.sexp_text.specs.Shows.{forest}
use Rattle.dsn_lists.specs.Rules.{clearances_of}
use Rattle.dsn_lists.proofs.rules.read_clearances.Given as goal

abbrev pub invariant-lists : goal.invariant-lists
invariant-lists l = clearances_of l.unit l.stated (forest l.rest) ≡ clearances_of l.initial.unit l.initial.stated (forest l.initial.rest)

abbrev pub decreases-lists : goal.decreases-lists
decreases-lists l = length l.rest.entries.now
