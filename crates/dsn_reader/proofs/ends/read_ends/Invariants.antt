use Rattle.std.proofs.Common.{◌≡◌, ◌≤◌, length}
use Rattle.sexp_text.specs.Shows.{forest}
use Rattle.dsn_lists.specs.Results.{each}
use Rattle.dsn_reader.specs.Fronts.{IsFront}
use Rattle.dsn_reader.specs.Wirings.{netted, end_item}
use Rattle.dsn_reader.proofs.ends.read_ends.Given as goal

abbrev pub invariant-lists : goal.invariant-lists
invariant-lists l = (each end_item (netted l.nets l.ends) (forest l.rest) ≡ each end_item (netted l.initial.nets l.initial.ends) (forest l.initial.rest)) × (length l.nets ≤ 100000) × IsFront l.initial.nets l.nets

abbrev pub decreases-lists : goal.decreases-lists
decreases-lists l = length l.rest.entries.now
