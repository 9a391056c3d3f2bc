use Rattle.std.proofs.Common.{◌≡◌, length}
use Rattle.sexp_text.specs.Shows.{forest}
use Rattle.dsn_lists.specs.Pcbs.{list_named}
use Rattle.dsn_lists.proofs.pcb.find.Given as goal

abbrev pub invariant-lists : goal.invariant-lists
invariant-lists l = list_named l.name (forest l.rest) ≡ list_named l.name (forest l.initial.rest)

abbrev pub decreases-lists : goal.decreases-lists
decreases-lists l = length l.rest.entries.now
