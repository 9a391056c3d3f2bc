use Rattle.std.proofs.Common.{◌∙◌, ◌+◌, sym, ap, arith, drop, List, ℕ}
use Rattle.std.proofs.Math.ListN.{drop_of_length-le}
use Rattle.number_slots.specs.Slots.{without}
use Rattle.number_slots.proofs.ByNumber.{left_at, without_two, without_none}
use Rattle.board_core.proofs.Released.{released_fewer}
use Rattle.board_core.proofs.holds.release_all.Goals as goal

pub loop-id-preserved : goal.loop-id-preserved
loop-id-preserved c =
    let ids = c.args.ids.now in
    let i = c.loop-id.id-index in
    let held = c.loop-id.held.pairs in
    let rest = drop (i + 1) ids in
    let cut = left_at ids i 0 c.loop-id-test.true in record {
      pairs = ap (λ (xs : List (ℕ × ℕ)). without rest xs) c.release.ensures.pairs ∙ sym (without_two _ rest held) ∙ ap (λ (ys : List ℕ). without ys held) (sym cut) ∙ c.loop-id.invariant.pairs;
      fewer = let less = released_fewer _ held _ c.release.ensures.pairs in omega (arith, less, c.loop-id.invariant.fewer);
    }

pub returns-clause-pairs : goal.returns-clause-pairs
returns-clause-pairs c =
    let held = c.loop-id.held.pairs in
    sym (without_none held) ∙ ap (λ (ys : List ℕ). without ys held) (sym (drop_of_length-le c.args.ids.now c.loop-id-test.false)) ∙ c.loop-id.invariant.pairs
