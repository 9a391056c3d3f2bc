use Rattle.std.proofs.Common.{arith, ap, ℕ, List, subst}
use Rattle.std.specs.Prelude.{Any}
use Rattle.std.proofs.lemmas.List.{take_all}
use Rattle.number_slots.proofs.ByNumber.{left_at}
use Rattle.board_core.specs.Costs.{deletes_most}
use Rattle.check_core.specs.Tries.{GrowsBy, IsMetByDelete}
use Rattle.check_core.proofs.Growth.{grows_at}
use Rattle.check_core.proofs.touched.deletes_touched.Goals as goal

pub returns-in_err-delete_touched-clause-cost : goal.returns-in_err-delete_touched-clause-cost
returns-in_err-delete_touched-clause-cost g c =
    let cut = ap (deletes_most c.args.design.now.parts c.args.board.now) (left_at c.args.deletes.now c.loop-id.id-index 0 c.loop-id-test.true) in
    omega (arith, cut, c.delete_touched.ensures.cost, c.loop-id.invariant.cost)

pub loop-id-preserved : goal.loop-id-preserved
loop-id-preserved g c =
    let cut = ap (deletes_most c.args.design.now.parts c.args.board.now) (left_at c.args.deletes.now c.loop-id.id-index 0 c.loop-id-test.true) in record {
      found = grows_at (λ (id : ℕ) (n : ℕ). IsMetByDelete c.args.design.now.parts c.args.board.now id n) c.args.deletes.now c.loop-id.id-index 0 _ _ _ c.loop-id-test.true c.loop-id.invariant.found c.in_ok-delete_touched.ensures.found;
      cost = omega (arith, cut, c.delete_touched.ensures.cost, c.loop-id.invariant.cost);
    }

pub returns-clause-found : goal.returns-clause-found
returns-clause-found g c =
    subst (λ (xs : List ℕ). GrowsBy (λ n. Any (λ (id : ℕ). IsMetByDelete c.args.design.now.parts c.args.board.now id n) xs) c.args.found.now c.loop-id.found) (take_all c.loop-id.id-index c.args.deletes.now c.loop-id-test.false) c.loop-id.invariant.found
