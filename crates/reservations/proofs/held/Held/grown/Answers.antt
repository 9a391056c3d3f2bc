use Rattle.std.specs.Prelude.{nat_eq}
use Rattle.indexmap.specs.IndexMap.{get}
use Rattle.reservations.proofs.Placed.{index_once}
use Rattle.reservations.proofs.held.Held.grown.Goals as goal

pub reserve_all-requires-clause-once : goal.reserve_all-requires-clause-once
reserve_all-requires-clause-once c = rw c.as_slice.ensures.value (index_once (get nat_eq c.self.inside.index) c.self.inside.places.items c.self.invariant.index)
