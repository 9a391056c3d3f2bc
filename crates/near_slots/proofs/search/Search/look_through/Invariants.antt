use Rattle.std.proofs.Common.{take}
use Rattle.std.specs.List.{Contains, Any}
use Rattle.near_slots.specs.Looks.{Looks}
use Rattle.near_slots.proofs.search.Search.look_through.Given as goal

abbrev pub invariant-loop-bucket : goal.invariant-loop-bucket
invariant-loop-bucket l = Looks l.self.shelf.now l.self.layer l.self.rect
    (λ s. Any (λ spots. Contains spots s) (take l.bucket-index l.bucket-items)) l.initial.found.items l.found.items
