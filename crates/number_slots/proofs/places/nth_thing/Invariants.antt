use Rattle.std.proofs.Common.{◌≡◌, ◌+◌, drop, length}
use Rattle.std.specs.Prelude.{slice_get}
use Rattle.number_slots.specs.Slots.{there, at_numbers}
use Rattle.number_slots.specs.Places.{slots_of}
use Rattle.number_slots.proofs.places.nth_thing.Given as goal

-- The one that is looked for is the one of this rank among those that are left.
abbrev pub invariant-loop-number : goal.invariant-loop-number
invariant-loop-number g l = record {
  same : slice_get (there 1 (slots_of l.things l.places)) l.i ≡ slice_get (at_numbers (drop l.number-index l.numbers) (there 1 (slots_of l.things l.places))) l.left;
  count : length (there 1 (slots_of l.things l.places)) + l.left ≡ l.i + length (at_numbers (drop l.number-index l.numbers) (there 1 (slots_of l.things l.places)));
}
