use Rattle.std.proofs.Common.{◌≡◌, drop}
use Rattle.std.specs.Prelude.{slice_get}
use Rattle.reservations.specs.Places.{pairs_of}
use Rattle.reservations.proofs.places.nth_pair.Given as goal

-- The one that is looked for is the one of this rank among those that are left.
abbrev pub invariant-loop-place : goal.invariant-loop-place
invariant-loop-place l = slice_get (pairs_of l.places) l.i ≡ slice_get (pairs_of (drop l.place-index l.places)) l.left
