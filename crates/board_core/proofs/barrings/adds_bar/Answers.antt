use Rattle.std.proofs.Common.{arith, ap, ◌≡◌, ◌∙◌, ◌+◌, take, List, ℕ, subst, sym}
use Rattle.std.specs.Prelude.{Option, Some, slice_get}
use Rattle.std.proofs.lemmas.List.{take_all}
use Rattle.board_items.specs.declared.requests.Add.{Add}
use Rattle.board_items.specs.Adds.{item_of_add}
use Rattle.board_rules.specs.FitAdds.{IsFitAdd}
use Rattle.board_rules.proofs.Walked.{left_is}
use Rattle.number_slots.specs.Leasts.{IsLeast}
use Rattle.board_core.specs.Bars.{IsBarredItem}
use Rattle.board_core.specs.Costs.{adds_touch_most}
use Rattle.board_core.proofs.Barring.{adds_least}
use Rattle.board_core.proofs.Leasts.{AnyOf, least_more, all_at, get_there}
use Rattle.board_core.proofs.barrings.adds_bar.Goals as goal

pub add_bar-requires : goal.add_bar-requires
add_bar-requires g c =
    let add = c.add-item.result in
    record { fit = subst (IsFitAdd c.args.design.now.parts) (sym c.add-item.is) (all_at (IsFitAdd c.args.design.now.parts) c.args.adds.now c.loop-add.add-index add c.loop-add-test.true c.requires.fit) }

pub loop-add-preserved : goal.loop-add-preserved
loop-add-preserved g c =
    let p = c.args.design.now.parts in
    let b = c.args.board.now in
    let add = c.add-item.result in
    let i = c.loop-add.add-index in
    let S = λ (a : Add) (n : ℕ). IsBarredItem p b c.args.client (item_of_add a) n in
    let there : slice_get c.args.adds.now i ≡ Some add = get_there c.args.adds.now i add c.loop-add-test.true ∙ ap Some (sym c.add-item.is) in
    let cut = ap (adds_touch_most p b.fences) (left_is c.args.adds.now i add c.loop-add-test.true c.add-item.is) in record {
      least = subst (λ (r : Option ℕ). IsLeast (λ n. AnyOf (λ (a : Add). S a n) (take (i + 1) c.args.adds.now)) r) (sym c.lesser-least.ensures)
          (least_more S c.args.adds.now i add c.loop-add.least c.add_bar.result there c.loop-add.invariant.least c.add_bar.ensures.least);
      cost = omega (arith, cut, c.add_bar.ensures.cost, c.loop-add.invariant.cost);
    }

pub returns-clause-least : goal.returns-clause-least
returns-clause-least g c =
    let p = c.args.design.now.parts in
    let b = c.args.board.now in
    adds_least p b c.args.client c.args.adds.now c.loop-add.least
    (subst (λ (xs : List Add). IsLeast (λ n. AnyOf (λ (a : Add). IsBarredItem p b c.args.client (item_of_add a) n) xs) c.loop-add.least) (take_all c.loop-add.add-index c.args.adds.now c.loop-add-test.false) c.loop-add.invariant.least)
