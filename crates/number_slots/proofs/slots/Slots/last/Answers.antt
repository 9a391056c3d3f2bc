use Rattle.std.proofs.Common.{arith}
use Rattle.number_slots.specs.Places.{slots_of}
use Rattle.number_slots.specs.Slots.{there}
use Rattle.number_slots.proofs.Kept.{as_many}
use Rattle.number_slots.proofs.ByNumber.{at_past, at_least, there_rises}
use Rattle.number_slots.proofs.slots.Slots.last.Goals as goal

pub returns-clause-within : goal.returns-clause-within
returns-clause-within g c =
    let xs = slots_of c.self.inside.things c.self.inside.places.items in
    rw (← c.self.view_is) (λ n x h. (omega (arith, at_least 1 (there 1 xs) n x (there_rises 1 xs) h), omega (arith, at_past 1 xs n x h, as_many c.self.inside.things c.self.inside.places.items, c.self.inside.places.ok.0)))

pub returns-clause-rising : goal.returns-clause-rising
returns-clause-rising g c = rw (← c.self.view_is) (there_rises 1 (slots_of c.self.inside.things c.self.inside.places.items))
