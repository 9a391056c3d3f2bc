use Rattle.std.proofs.Common.{◌≡◌, ◌≤◌, drop, length}
use Rattle.number_slots.specs.Slots.{without}
use Rattle.board_core.proofs.holds.release_all.Given as goal

-- Without the items that are left, what is held is what is to be left at the end.
abbrev pub invariant-loop-id : goal.invariant-loop-id
invariant-loop-id l = record {
  pairs : without (drop l.id-index l.ids) l.held.pairs ≡ without l.ids l.initial.held.pairs;
  fewer : length l.held.pairs ≤ length l.initial.held.pairs;
}
