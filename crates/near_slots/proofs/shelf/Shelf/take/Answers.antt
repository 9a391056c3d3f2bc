use Rattle.std.proofs.Common.{List, Option, sym, subst}
use Rattle.seg_geometry.specs.declared.near.Filed.{Filed}
use Rattle.near_slots.specs.Slots.{IsAt}
use Rattle.near_slots.proofs.SlotLemmas.{HasIds-emptied, IsAt-within}
use Rattle.near_slots.proofs.shelf.Shelf.take.Goals as goal

pub invariant_of-self : goal.invariant_of-self
invariant_of-self c =
    let slots = c.self.inside.slots.items in
    let at = subst (λ (s : List (Option Filed)). IsAt s c.in_ok-slot.slot c.in_ok-slot.filed) (sym c.self.view_is) c.in_ok-slot.ensures.at in
    HasIds-emptied c.self.inside.ids c.remove.new.self slots c.in_ok-slot.slot (IsAt-within slots c.in_ok-slot.slot c.in_ok-slot.filed at) c.self.invariant c.remove.ensures
