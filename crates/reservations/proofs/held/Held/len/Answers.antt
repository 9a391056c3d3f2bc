use Rattle.std.specs.Prelude.{nat_eq}
use Rattle.indexmap.specs.IndexMap.{get}
use Rattle.reservations.proofs.Placed.{index_once}
use Rattle.reservations.proofs.held.Held.len.Goals as goal

pub returns-clause-once : goal.returns-clause-once
returns-clause-once c = rw (← c.self.view_is) (index_once (get nat_eq c.self.inside.index) c.self.inside.places.items c.self.invariant.index)
