use Rattle.std.proofs.Common.{◌≡◌, ◌≤◌, ◌+◌, take, length}
use Rattle.std.specs.Prelude.{nat_eq}
use Rattle.indexmap.specs.IndexMap.{get, spare, index_map_len}
use Rattle.reservations.specs.Places.{pairs_of, IsIndex}
use Rattle.reservations.proofs.places.reindex.Given as goal

-- The index is that of the places so far.
abbrev pub invariant-loop-i : goal.invariant-loop-i
invariant-loop-i l = record {
  index : IsIndex (get nat_eq l.index) (take l.i l.places);
  count : index_map_len l.index ≡ length (pairs_of (take l.i l.places));
  spare : index_map_len l.fn.index + spare l.fn.index ≤ index_map_len l.index + spare l.index;
}
