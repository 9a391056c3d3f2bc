use Rattle.std.proofs.Common.{◌≡◌, length}
use Rattle.sexp_text.specs.Shows.{forest}
use Rattle.dsn_lists.specs.Results.{each}
use Rattle.dsn_placement.specs.Placements.{ground_of}
use Rattle.dsn_placement.specs.Components.{sited, component_item}
use Rattle.dsn_placement.proofs.place_lists.read_places.Given as goal

abbrev pub invariant-lists : goal.invariant-lists
invariant-lists l = each (component_item l.unit (ground_of l.setting) l.library l.image) (sited l.placement l.found) (forest l.rest) ≡ each (component_item l.unit (ground_of l.setting) l.library l.image) (sited l.initial.placement l.initial.found) (forest l.initial.rest)

abbrev pub decreases-lists : goal.decreases-lists
decreases-lists l = length l.rest.entries.now
