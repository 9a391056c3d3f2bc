use Rattle.std.proofs.Common.{◌≡◌, ◌≤◌, ◌<◌, ◌+◌, ◌++◌, ◌^◌, length}
use Rattle.std.specs.Vec.{vec_len, vec_capacity}
use Rattle.slab.specs.Slab.{slab_len}
use Rattle.number_slots.specs.Places.{slots_of, IsKept}
use Rattle.number_slots.proofs.places.fill.Given as goal

-- What is put, and what is left to put, is all; and there is room for what is left.
abbrev pub invariant-loop-thing : goal.invariant-loop-thing
invariant-loop-thing g l = record {
  kept : IsKept l.places.items l.things;
  few : length l.places.items + length l.thing-iterator.rest.items + 1 < 2 ^ 32;
  room : vec_len l.places + length l.thing-iterator.rest.items ≤ vec_capacity l.places;
  capacity : slab_len l.things + length l.thing-iterator.rest.items ≤ l.things.capacity;
  put : slots_of l.things l.places.items ++ l.thing-iterator.rest.items ≡ slots_of l.initial.things l.initial.places.items ++ l.fn.made.items;
}
