use Rattle.std.proofs.Common.{◌<◌, vec_len}
use Rattle.near_slots.proofs.buckets.Buckets.new.Given as goal

abbrev pub invariant-loop : goal.invariant-loop
invariant-loop l = 0 < vec_len l.lists
