use Rattle.std.proofs.Common.{ℕ, ◌<◌, get_or, []}
use Rattle.near_slots.specs.Tables.{HasAll}
use Rattle.near_slots.proofs.buckets.Buckets.doubled.Given as goal

abbrev pub invariant-loop-bucket : goal.invariant-loop-bucket
invariant-loop-bucket l = (j : ℕ) → j < l.bucket-index → HasAll l.table (get_or l.self.lists j [])
