use Rattle.std.proofs.Common.{take}
use Rattle.std.specs.List.{All}
use Rattle.near_slots.specs.Slots.{IsFreeOf}
use Rattle.near_slots.proofs.shelf.Shelf.find.Given as goal

abbrev pub invariant-loop-spot : goal.invariant-loop-spot
invariant-loop-spot l = All (λ s. IsFreeOf l.id l.self s.slot) (take l.spot-index l.spot-items)
