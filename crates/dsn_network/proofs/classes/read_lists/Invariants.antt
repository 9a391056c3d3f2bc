use Rattle.std.proofs.Common.{◌≡◌, length}
use Rattle.sexp_text.specs.Shows.{forest}
use Rattle.dsn_lists.specs.Results.{each}
use Rattle.dsn_network.specs.Networks.{class_item}
use Rattle.dsn_network.proofs.classes.read_lists.Given as goal

abbrev pub invariant-lists : goal.invariant-lists
invariant-lists l = each (class_item l.unit) l.class (forest l.rest) ≡ each (class_item l.unit) l.initial.class (forest l.initial.rest)

abbrev pub decreases-lists : goal.decreases-lists
decreases-lists l = length l.rest.entries.now
