use Rattle.std.proofs.Common.{◌≡◌, ◌+◌, ◌∷◌, List, ℕ, arith, ap, sym, ◌∙◌, drop, slice_index_or}
use Rattle.std.proofs.lemmas.List.{drop_all}
use Rattle.number_slots.specs.Slots.{there, without}
use Rattle.number_slots.specs.Places.{slots_of}
use Rattle.number_slots.proofs.ByNumber.{without_two, without_none, left_at}
use Rattle.number_slots.proofs.places.clear.Goals as goal

pub loop-number-preserved : goal.loop-number-preserved
loop-number-preserved g c =
    let ids = c.args.numbers.now in
    let i = c.loop-number.number-index in
    let id = slice_index_or ids i 0 in
    let rest = drop (i + 1) ids in
    let xs = there 1 (slots_of c.loop-number.things c.loop-number.places.items) in
    let cut : drop i ids ≡ id ∷ rest = left_at ids i 0 c.loop-number-test.true in record {
      kept = c.clear_one.ensures.kept;
      left = ap (λ ys. without rest ys) c.clear_one.ensures.left ∙ sym (without_two id rest xs) ∙ ap (λ (ks : List ℕ). without ks xs) (sym cut) ∙ c.loop-number.invariant.left;
      same = c.clear_one.ensures.length ∙ c.loop-number.invariant.same;
      room = c.clear_one.ensures.room ∙ c.loop-number.invariant.room;
      capacity = c.clear_one.ensures.capacity ∙ c.loop-number.invariant.capacity;
      fewer = omega (arith, c.clear_one.ensures.fewer, c.loop-number.invariant.fewer);
    }

pub returns-clause-left : goal.returns-clause-left
returns-clause-left g c =
    let xs = there 1 (slots_of c.loop-number.things c.loop-number.places.items) in
    sym (without_none xs) ∙ ap (λ (ks : List ℕ). without ks xs) (sym (drop_all c.loop-number.number-index c.args.numbers.now c.loop-number-test.false)) ∙ c.loop-number.invariant.left
