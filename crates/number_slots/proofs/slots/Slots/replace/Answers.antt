use Rattle.std.proofs.Common.{◌≡◌, sym, subst, arith, length, List, ℕ}
use Rattle.number_slots.specs.Slots.{there}
use Rattle.number_slots.specs.Places.{slots_of, IsWalk}
use Rattle.number_slots.proofs.Kept.{replaced}
use Rattle.number_slots.proofs.Walks.{still_all, noted}
use Rattle.number_slots.proofs.slots.Slots.replace.Goals as goal

pub returns-clause-left : goal.returns-clause-left
returns-clause-left g c =
    let left = rw (c.reserve-3.ensures.rest_kept, c.reserve-2.ensures.items) at c.clear.ensures.left in
    let same = rw c.reserve-2.ensures.items at c.clear.ensures.length in
    rw (← c.self.view_is) (replaced c.self.inside.things c.clear.new.things c.fill.new.things c.self.inside.places.items c.clear.new.places.items c.fill.new.places.items c.args.numbers.now c.args.made.items left same c.fill.ensures.put)

pub squeeze-requires-clause-all : goal.squeeze-requires-clause-all
squeeze-requires-clause-all g c =
    let left = rw (c.reserve-3.ensures.rest_kept, c.reserve-2.ensures.items) at c.clear.ensures.left in
    let xs = there 1 (slots_of c.self.inside.things c.self.inside.places.items) in
    rw (c.reserve.ensures.items, c.as_slice.ensures.value) (still_all c.args.numbers.now c.self.inside.numbers.items xs (there 1 (slots_of c.clear.new.things c.clear.new.places.items)) left c.self.invariant.1.all)

pub squeeze-requires-clause-given : goal.squeeze-requires-clause-given
squeeze-requires-clause-given g c =
    let same = rw c.reserve-2.ensures.items at c.clear.ensures.length in
    rw (c.reserve.ensures.items, c.as_slice.ensures.value, same) c.self.invariant.1.given

pub invariant_of-self-2 : goal.invariant_of-self-2
invariant_of-self-2 g c =
    let walk = rw c.as_slice.ensures.value at c.squeeze.ensures.walk in
    let first : c.len-4.result ≡ length c.clear.new.places.items = omega (arith, c.len-4.ensures, c.clear.new.places.ok.0) in
    let numbers = rw (first, c.as_slice-2.ensures.value) at c.note.ensures in
    (c.fill.ensures.kept, subst (λ (ns : List ℕ). IsWalk ns c.fill.new.places.items c.fill.new.things) (sym numbers) (noted c.clear.new.things c.fill.new.things c.clear.new.places.items c.fill.new.places.items c.squeeze.new.numbers.items c.args.made.items c.clear.ensures.kept c.fill.ensures.kept c.fill.ensures.put walk))
