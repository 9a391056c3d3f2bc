use Rattle.std.proofs.Common.{◌≡◌, length}
use Rattle.sexp_text.specs.Shows.{forest}
use Rattle.dsn_lists.specs.Results.{each}
use Rattle.dsn_lists.specs.Rules.{clearance_item}
use Rattle.dsn_lists.proofs.rules.read_clearance_lists.Given as goal

abbrev pub invariant-lists : goal.invariant-lists
invariant-lists l = each (clearance_item l.value) l.typed (forest l.rest) ≡ each (clearance_item l.value) l.initial.typed (forest l.initial.rest)

abbrev pub decreases-lists : goal.decreases-lists
decreases-lists l = length l.rest.entries.now
