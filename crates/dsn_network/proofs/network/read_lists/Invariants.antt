use Rattle.std.proofs.Common.{◌≡◌, length}
use Rattle.sexp_text.specs.Shows.{forest}
use Rattle.dsn_lists.specs.Results.{each}
use Rattle.dsn_network.specs.Networks.{network_item}
use Rattle.dsn_network.proofs.network.read_lists.Given as goal

abbrev pub invariant-lists : goal.invariant-lists
invariant-lists l = each (network_item l.unit l.names.placement.now l.names.library.now) l.network (forest l.rest) ≡ each (network_item l.unit l.names.placement.now l.names.library.now) l.initial.network (forest l.initial.rest)

abbrev pub decreases-lists : goal.decreases-lists
decreases-lists l = length l.rest.entries.now
