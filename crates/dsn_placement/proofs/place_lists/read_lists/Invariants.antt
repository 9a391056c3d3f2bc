use Rattle.std.proofs.Common.{◌≡◌, length}
use Rattle.sexp_text.specs.Shows.{forest}
use Rattle.dsn_lists.specs.Results.{each}
use Rattle.dsn_placement.specs.Placements.{ground_of}
use Rattle.dsn_placement.specs.Components.{placement_item}
use Rattle.dsn_placement.proofs.place_lists.read_lists.Given as goal

abbrev pub invariant-lists : goal.invariant-lists
invariant-lists l = each (placement_item l.unit (ground_of l.setting) l.library) l.placement (forest l.rest) ≡ each (placement_item l.unit (ground_of l.setting) l.library) l.initial.placement (forest l.initial.rest)

abbrev pub decreases-lists : goal.decreases-lists
decreases-lists l = length l.rest.entries.now
