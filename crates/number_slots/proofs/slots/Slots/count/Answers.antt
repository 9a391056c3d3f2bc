use Rattle.std.proofs.Common.{rules, arith, ◌<◌, ◌^◌}
use Rattle.number_slots.specs.Places.{slots_of}
use Rattle.number_slots.proofs.Kept.{as_many}
use Rattle.number_slots.proofs.ByNumber.{few_there}
use Rattle.number_slots.proofs.slots.Slots.count.Goals as goal

pub overflow_cast-result : goal.overflow_cast-result
overflow_cast-result g c =
    let xs = slots_of c.self.inside.things c.self.inside.places.items in
    let few : c.len.result < 2 ^ 32 = omega (arith, few_there 1 xs, as_many c.self.inside.things c.self.inside.places.items, c.self.invariant.0.count, c.self.invariant.0.few, c.len.ensures) in
    search rules
