use Rattle.std.proofs.Common.{◌≡◌, ◌≤◌, drop, length}
use Rattle.std.specs.Vec.{vec_capacity}
use Rattle.slab.specs.Slab.{slab_len}
use Rattle.number_slots.specs.Slots.{there, without}
use Rattle.number_slots.specs.Places.{slots_of, IsKept}
use Rattle.number_slots.proofs.places.clear.Given as goal

abbrev pub invariant-loop-number : goal.invariant-loop-number
invariant-loop-number g l = record {
  kept : IsKept l.places.items l.things;
  left : without (drop l.number-index l.numbers) (there 1 (slots_of l.things l.places.items)) ≡ without l.numbers (there 1 (slots_of l.initial.things l.initial.places.items));
  same : length l.places.items ≡ length l.initial.places.items;
  room : vec_capacity l.places ≡ vec_capacity l.initial.places;
  capacity : l.things.capacity ≡ l.initial.things.capacity;
  fewer : slab_len l.things ≤ slab_len l.initial.things;
}
