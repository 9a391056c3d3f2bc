use Rattle.std.proofs.Common.{◌≡◌, ◌+◌, ◌≤◌, ◌++◌, drop, length}
use Rattle.std.specs.Vec.{vec_len, vec_capacity}
use Rattle.number_slots.specs.Slots.{there}
use Rattle.number_slots.specs.Places.{numbers_of}
use Rattle.number_slots.proofs.numbers.note.Given as goal

-- The numbers so far, and those of what is left, are all; and there is room for them.
abbrev pub invariant-loop-i : goal.invariant-loop-i
invariant-loop-i g l = record {
  room : vec_len l.numbers + length (drop l.i l.made) ≤ vec_capacity l.numbers;
  all : l.numbers.items ++ numbers_of (there (l.first + l.i) (drop l.i l.made)) ≡ l.initial.numbers.items ++ numbers_of (there l.first l.made);
}
