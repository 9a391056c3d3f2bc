use Rattle.std.proofs.Common.{◌≡◌, ◌+◌, ◌-◌, ◌∷◌, ℕ, drop, length, arith, ap, ◌∙◌, slice_index_or, suc}
use Rattle.std.specs.Prelude.{slice_get}
use Rattle.number_slots.specs.Slots.{there, at_numbers}
use Rattle.number_slots.specs.Places.{slots_of}
use Rattle.number_slots.proofs.ByNumber.{there_rises}
use Rattle.number_slots.proofs.Walks.{walk_pass, walk_find}
use Rattle.number_slots.proofs.places.nth_thing.Goals as goal

pub loop-number-preserved-in_default : goal.loop-number-preserved-in_default
loop-number-preserved-in_default g c =
    let slots = slots_of c.args.things.now c.args.places.now in
    let cut = walk_pass c.args.numbers.now c.loop-number.number-index (there 1 slots) c.loop-number-test.true (λ t. c.in_default.ensures.none t.0 t.1) in
    record { same = c.loop-number.invariant.same ∙ ap (λ ys. slice_get ys c.loop-number.left) cut; count = c.loop-number.invariant.count ∙ ap (λ ys. c.args.i + length ys) cut }

pub returns-then-left-eq0-clause-some : goal.returns-then-left-eq0-clause-some
returns-then-left-eq0-clause-some g c =
    let slots = slots_of c.args.things.now c.args.places.now in
    let cut = walk_find c.args.numbers.now c.loop-number.number-index (there 1 slots) c.in-Some.thing.now c.loop-number-test.true (there_rises 1 slots) c.in-Some.ensures.some in
    c.loop-number.invariant.same ∙ ap (λ ys. slice_get ys c.loop-number.left) cut ∙ ap (λ (m : ℕ). slice_get ((slice_index_or c.args.numbers.now c.loop-number.number-index 0, c.in-Some.thing.now) ∷ at_numbers (drop (c.loop-number.number-index + 1) c.args.numbers.now) (there 1 slots)) m) c.if-left-eq0.true

pub loop-number-preserved : goal.loop-number-preserved
loop-number-preserved g c =
    let slots = slots_of c.args.things.now c.args.places.now in
    let one : c.loop-number.left ≡ suc (c.loop-number.left - 1) = omega (arith, c.if-left-eq0.false) in
    let cut = walk_find c.args.numbers.now c.loop-number.number-index (there 1 slots) c.in-Some.thing.now c.loop-number-test.true (there_rises 1 slots) c.in-Some.ensures.some in
    let long = ap length cut in
    record {
      same = c.loop-number.invariant.same ∙ ap (λ ys. slice_get ys c.loop-number.left) cut ∙ ap (λ (m : ℕ). slice_get ((slice_index_or c.args.numbers.now c.loop-number.number-index 0, c.in-Some.thing.now) ∷ at_numbers (drop (c.loop-number.number-index + 1) c.args.numbers.now) (there 1 slots)) m) one;
      count = omega (arith, c.loop-number.invariant.count, long, c.if-left-eq0.false);
    }
