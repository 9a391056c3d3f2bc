use Rattle.number_slots.specs.Places.{slots_of}
use Rattle.number_slots.proofs.ByNumber.{only_one}
use Rattle.number_slots.proofs.slots.Slots.at.Goals as goal

pub returns-clause-only : goal.returns-clause-only
returns-clause-only g c = rw (← c.self.view_is) (only_one c.thing_at.result (slots_of c.self.inside.things c.self.inside.places.items) c.args.number (rw c.as_slice.ensures.value at c.thing_at.ensures.some))

pub returns-clause-none : goal.returns-clause-none
returns-clause-none g c = rw (← c.self.view_is) (rw c.as_slice.ensures.value at c.thing_at.ensures.none)
