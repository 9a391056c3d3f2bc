use Rattle.std.proofs.Common.{◌≤◌, ◌+◌, take, drop}
use Rattle.boundaries.specs.Costs.{overlap_most, fences_most}
use Rattle.boundaries.proofs.Walked.{NoneIs}
use Rattle.boundaries.proofs.Leasts.{IsBarred}
use Rattle.boundaries.proofs.walks.least_overlapped.Given as goal

-- no boundary so far is overlapped and bars the client, and those that are left have their part of the steps
abbrev pub invariant-loop-fence : goal.invariant-loop-fence
invariant-loop-fence g l = record {
  none : NoneIs (IsBarred l.layers l.area l.client) (take l.fence-index l.live);
  cost : l.steps + fences_most (overlap_most l.layers l.area) 0 (drop l.fence-index l.live) ≤ l.initial.steps + fences_most (overlap_most l.layers l.area) 0 l.live;
}
