use Rattle.std.proofs.Common.{arith}
use Rattle.near_slots.proofs.TableLemmas.{KeepsOthers-written, table}
use Rattle.near_slots.proofs.buckets.Buckets.remove.Goals as goal

pub returns-then-remove : goal.returns-then-remove
returns-then-remove c = rw (← c.self.view_is) (KeepsOthers-written (table c.self.inside.lists.items c.self.inside.mask) c.bucket_of-place.result c.remove.new.self c.index_mut-bucket.result.now c.args.slot
    (omega (arith, c.self.invariant, c.bucket_of-place.ensures.within)) c.index_mut-bucket.ensures.value c.remove.ensures)

pub returns-else-remove : goal.returns-else-remove
returns-else-remove c = rw (← c.self.view_is) (KeepsOthers-written (table c.self.inside.lists.items c.self.inside.mask) c.bucket_of-place.result c.remove.new.self c.index_mut-bucket.result.now c.args.slot
    (omega (arith, c.self.invariant, c.bucket_of-place.ensures.within)) c.index_mut-bucket.ensures.value c.remove.ensures)
