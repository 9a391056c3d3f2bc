use Rattle.std.proofs.Common.{◌≡◌, length}
use Rattle.sexp_text.specs.Shows.{forest}
use Rattle.dsn_lists.specs.Results.{each}
use Rattle.dsn_network.specs.Networks.{use_item}
use Rattle.dsn_network.proofs.classes.read_uses.Given as goal

abbrev pub invariant-lists : goal.invariant-lists
invariant-lists l = each use_item l.vias (forest l.rest) ≡ each use_item l.initial.vias (forest l.initial.rest)

abbrev pub decreases-lists : goal.decreases-lists
decreases-lists l = length l.rest.entries.now
