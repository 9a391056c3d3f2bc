use Rattle.std.proofs.Common.{arith}
use Rattle.near_slots.proofs.TableLemmas.{Keeps-put, IsIn-put, table}
use Rattle.near_slots.proofs.buckets.Buckets.add.Goals as goal

pub returns-clause-kept : goal.returns-clause-kept
returns-clause-kept c = rw (← c.self.view_is) (Keeps-put (table c.self.inside.lists.items c.self.inside.mask) c.bucket_of-place.result c.index_mut-bucket.result.now c.put.new.self c.args.spot
    (omega (arith, c.self.invariant, c.bucket_of-place.ensures.within)) c.index_mut-bucket.ensures.value c.in_ok-put.ensures)

pub returns-clause-added : goal.returns-clause-added
returns-clause-added c = IsIn-put (table c.self.inside.lists.items c.self.inside.mask) c.bucket_of-place.result c.index_mut-bucket.result.now c.put.new.self c.args.spot
    (omega (arith, c.self.invariant, c.bucket_of-place.ensures.within)) c.bucket_of-place.ensures.value c.in_ok-put.ensures
