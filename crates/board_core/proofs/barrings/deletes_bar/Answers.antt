use Rattle.std.proofs.Common.{arith, ap, ◌+◌, take, List, ℕ, [], ◌∷◌, subst, sym}
use Rattle.std.specs.Prelude.{Option}
use Rattle.std.proofs.lemmas.List.{take_all}
use Rattle.number_slots.specs.Leasts.{IsLeast}
use Rattle.number_slots.proofs.ByNumber.{left_at}
use Rattle.board_core.specs.Barrings.{IsBarring}
use Rattle.board_core.specs.Costs.{deletes_most}
use Rattle.board_core.proofs.Barring.{ids_least}
use Rattle.board_core.proofs.Leasts.{AnyOf, least_at}
use Rattle.board_core.proofs.barrings.deletes_bar.Goals as goal

pub loop-id-preserved : goal.loop-id-preserved
loop-id-preserved g c =
    let p = c.args.design.now.parts in
    let b = c.args.board.now in
    let S = λ (id : ℕ) (n : ℕ). IsBarring p b c.args.client (id ∷ []) [] n in
    let cut = ap (deletes_most p b) (left_at c.args.deletes.now c.loop-id.id-index 0 c.loop-id-test.true) in record {
      least = subst (λ (r : Option ℕ). IsLeast (λ n. AnyOf (λ (id : ℕ). S id n) (take (c.loop-id.id-index + 1) c.args.deletes.now)) r) (sym c.lesser-least.ensures)
          (least_at S c.args.deletes.now c.loop-id.id-index 0 c.loop-id.least c.delete_bar.result c.loop-id-test.true c.loop-id.invariant.least c.delete_bar.ensures.least);
      cost = omega (arith, cut, c.delete_bar.ensures.cost, c.loop-id.invariant.cost);
    }

pub returns-clause-least : goal.returns-clause-least
returns-clause-least g c =
    let p = c.args.design.now.parts in
    let b = c.args.board.now in
    ids_least p b c.args.client c.args.deletes.now c.loop-id.least
    (subst (λ (xs : List ℕ). IsLeast (λ n. AnyOf (λ (id : ℕ). IsBarring p b c.args.client (id ∷ []) [] n) xs) c.loop-id.least) (take_all c.loop-id.id-index c.args.deletes.now c.loop-id-test.false) c.loop-id.invariant.least)
