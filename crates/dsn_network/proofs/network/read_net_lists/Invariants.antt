use Rattle.std.proofs.Common.{◌≡◌, length}
use Rattle.sexp_text.specs.Shows.{forest}
use Rattle.dsn_lists.specs.Results.{each}
use Rattle.dsn_network.specs.Networks.{net_item}
use Rattle.dsn_network.proofs.network.read_net_lists.Given as goal

abbrev pub invariant-lists : goal.invariant-lists
invariant-lists l = each (net_item l.names.placement.now l.names.library.now l.net) l.pins (forest l.rest) ≡ each (net_item l.names.placement.now l.names.library.now l.net) l.initial.pins (forest l.initial.rest)

abbrev pub decreases-lists : goal.decreases-lists
decreases-lists l = length l.rest.entries.now
