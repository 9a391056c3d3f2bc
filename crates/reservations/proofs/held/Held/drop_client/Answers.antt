use Rattle.std.proofs.Common.{◌≤◌, arith, length}
use Rattle.std.specs.Prelude.{nat_eq}
use Rattle.indexmap.specs.IndexMap.{get}
use Rattle.reservations.specs.Places.{pairs_of}
use Rattle.reservations.proofs.Placed.{index_once}
use Rattle.reservations.proofs.held.Held.drop_client.Goals as goal

pub reindex-requires-clause-once : goal.reindex-requires-clause-once
reindex-requires-clause-once c = rw c.as_slice.ensures.value
    (c.keep_others.ensures.once (index_once (get nat_eq c.self.inside.index) c.self.inside.places.items c.self.invariant.index))

pub reindex-requires-clause-few : goal.reindex-requires-clause-few
reindex-requires-clause-few c = rw c.as_slice.ensures.value (omega (arith, c.keep_others.ensures.fewer, c.self.invariant.few))

pub reindex-requires-clause-room : goal.reindex-requires-clause-room
reindex-requires-clause-room c = rw c.as_slice.ensures.value (omega (arith, c.keep_others.ensures.fewer, c.self.invariant.count))

pub returns-clause-room : goal.returns-clause-room
returns-clause-room c =
    let fewer : length (pairs_of c.as_slice.result.now) ≤ length (pairs_of c.self.inside.places.items) = rw c.as_slice.ensures.value c.keep_others.ensures.fewer in
    rw (← c.self.view_is) (omega (arith, fewer, c.self.invariant.count, c.reindex.ensures.kept.count, c.reindex.ensures.spare, c.keep_others.ensures.len, c.keep_others.ensures.capacity))
