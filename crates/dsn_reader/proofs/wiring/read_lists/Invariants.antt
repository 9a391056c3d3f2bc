use Rattle.std.proofs.Common.{◌≡◌, ◌≤◌, length}
use Rattle.sexp_text.specs.Shows.{forest}
use Rattle.dsn_lists.specs.Results.{each}
use Rattle.dsn_reader.specs.Fronts.{IsFront}
use Rattle.dsn_reader.specs.Wirings.{netted, wiring_item}
use Rattle.dsn_reader.proofs.wiring.read_lists.Given as goal

abbrev pub invariant-lists : goal.invariant-lists
invariant-lists l = (each (wiring_item l.unit l.layers l.library) (netted l.nets l.wiring) (forest l.rest) ≡ each (wiring_item l.unit l.layers l.library) (netted l.initial.nets l.initial.wiring) (forest l.initial.rest)) × (length l.nets ≤ 100000) × IsFront l.initial.nets l.nets

abbrev pub decreases-lists : goal.decreases-lists
decreases-lists l = length l.rest.entries.now
