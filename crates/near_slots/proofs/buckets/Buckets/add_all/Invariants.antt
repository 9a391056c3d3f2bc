use Rattle.std.proofs.Common.{take}
use Rattle.near_slots.specs.Tables.{Keeps, HasAll}
use Rattle.near_slots.proofs.buckets.Buckets.add_all.Given as goal

abbrev pub invariant-loop-spot : goal.invariant-loop-spot
invariant-loop-spot l = record { kept : Keeps l.initial.self l.self; added : HasAll l.self (take l.spot-index l.spots) }
