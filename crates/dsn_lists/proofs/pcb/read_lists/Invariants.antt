use Rattle.std.proofs.Common.{◌≡◌, length}
use Rattle.sexp_text.specs.Shows.{forest}
use Rattle.dsn_lists.specs.Results.{each}
use Rattle.dsn_lists.specs.Pcbs.{pcb_item}
use Rattle.dsn_lists.proofs.pcb.read_lists.Given as goal

abbrev pub invariant-lists : goal.invariant-lists
invariant-lists l = each pcb_item l.frame (forest l.rest) ≡ each pcb_item l.initial.frame (forest l.initial.rest)

abbrev pub decreases-lists : goal.decreases-lists
decreases-lists l = length l.rest.entries.now
