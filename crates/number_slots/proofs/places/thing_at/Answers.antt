use Rattle.std.proofs.Common.{rules, arith, sym}
use Rattle.std.proofs.lemmas.Bool.{ltb-false}
use Rattle.number_slots.specs.Places.{slots_of}
use Rattle.number_slots.proofs.Kept.{none_low, none_past, none_empty, key_some, key_none}
use Rattle.number_slots.proofs.places.thing_at.Goals as goal

pub returns-in_err-i-clause-none : goal.returns-in_err-i-clause-none
returns-in_err-i-clause-none g c = rw c.from_residual.ensures (none_low (slots_of c.args.things.now c.args.places.now) c.args.number (search rules))

pub returns-in_err-get-clause-none : goal.returns-in_err-get-clause-none
returns-in_err-get-clause-none g c = rw c.from_residual-in_err-get.ensures (none_past c.args.things.now c.args.places.now c.args.number (let le = ltb-false _ _ (sym c.in_err-get.ensures.lookup.0) in omega (arith, le, c.in_ok-i.ensures)))

pub returns-in_err-key-clause-none : goal.returns-in_err-key-clause-none
returns-in_err-key-clause-none g c = rw c.from_residual-in_err-key.ensures (none_empty c.args.things.now c.args.places.now c.args.number c.in_ok-i.i (search rules) (search rules))

pub returns-clause-some : goal.returns-clause-some
returns-clause-some g c = key_some c.args.things.now c.args.places.now c.args.number c.in_ok-i.i c.in_ok-key.key c.get-2.result (search rules) (search rules) (search rules) c.get-2.ensures

pub returns-clause-none : goal.returns-clause-none
returns-clause-none g c = key_none c.args.things.now c.args.places.now c.args.number c.in_ok-i.i c.in_ok-key.key c.get-2.result (search rules) (search rules) c.get-2.ensures
