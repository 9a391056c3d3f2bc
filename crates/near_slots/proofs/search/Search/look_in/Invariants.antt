use Rattle.std.proofs.Common.{take}
use Rattle.std.specs.List.{Contains}
use Rattle.near_slots.specs.Looks.{Looks}
use Rattle.near_slots.proofs.search.Search.look_in.Given as goal

abbrev pub invariant-loop-spot : goal.invariant-loop-spot
invariant-loop-spot l = Looks l.self.shelf.now l.self.layer l.self.rect (Contains (take l.spot-index l.spots)) l.initial.found.items l.found.items
