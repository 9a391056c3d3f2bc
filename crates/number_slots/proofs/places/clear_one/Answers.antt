use Rattle.std.proofs.Common.{rules, ◌≡◌, ◌-◌, arith, get_or}
use Rattle.number_slots.specs.Places.{slots_of}
use Rattle.number_slots.proofs.Kept.{stays_low, stays_past, stays_empty, cleared_left, cleared_kept, read_place}
use Rattle.number_slots.proofs.places.clear_one.Goals as goal

pub returns-then-i-eq0-clause-left : goal.returns-then-i-eq0-clause-left
returns-then-i-eq0-clause-left g c = stays_low (slots_of c.args.things.now c.args.places.now.items) c.args.number (search rules)

pub returns-then-len-i-clause-left : goal.returns-then-len-i-clause-left
returns-then-len-i-clause-left g c = stays_past c.args.things.now c.args.places.now.items c.args.number (search rules)

pub returns-then-place-eq0-clause-left : goal.returns-then-place-eq0-clause-left
returns-then-place-eq0-clause-left g c = stays_empty c.args.things.now c.args.places.now.items (c.args.number - 1) c.args.number (search rules) (search rules) (search rules)

pub returns-clause-kept : goal.returns-clause-kept
returns-clause-kept g c =
    let e : get_or c.args.places.now.items (c.args.number - 1) 0 ≡ c.index-place.result.now = read_place c.args.places.now.items (c.args.number - 1) _ c.index-place.result.now (search rules) c.index-place.ensures in
    cleared_kept c.args.things.now c.remove.new.self (c.index-place.result.now - 1) (c.args.number - 1) c.args.places.now.items _ c.remove.ensures.updates c.remove.ensures.value c.remove.ensures.len (search rules) (omega (arith, e, c.if-place-eq0.false)) c.requires

pub returns-clause-left : goal.returns-clause-left
returns-clause-left g c =
    let e : get_or c.args.places.now.items (c.args.number - 1) 0 ≡ c.index-place.result.now = read_place c.args.places.now.items (c.args.number - 1) _ c.index-place.result.now (search rules) c.index-place.ensures in
    cleared_left c.args.things.now c.remove.new.self (c.index-place.result.now - 1) (c.args.number - 1) c.args.number c.args.places.now.items (search rules) c.remove.ensures.updates (search rules) (omega (arith, e, c.if-place-eq0.false)) c.requires
