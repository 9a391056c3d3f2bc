use Rattle.std.proofs.Common.{◌≡◌, ◌<◌, ◌+◌, take, length}
use Rattle.reservations.specs.Places.{pairs_of}
use Rattle.reservations.proofs.held.reserve_all.Given as goal

-- The pairs so far are reserved; and there is room for all.
abbrev pub invariant-loop-place : goal.invariant-loop-place
invariant-loop-place l = record {
  pairs : l.held.pairs ≡ pairs_of (take l.place-index l.places);
  room : length (pairs_of l.places) < l.held.room + length (pairs_of (take l.place-index l.places));
}
