use Rattle.std.proofs.Common.{arith, ap, ◌≡◌, ◌∙◌, ◌≤◌, ◌+◌, take, List, ℕ, length, subst, sym}
use Rattle.std.specs.Prelude.{Option, Some, slice_get}
use Rattle.std.proofs.lemmas.List.{take_all}
use Rattle.number_slots.specs.Leasts.{IsLeast}
use Rattle.board_core.specs.Bars.{IsCoveredPair}
use Rattle.board_core.specs.Costs.{held_most}
use Rattle.board_core.proofs.Covered.{covers_least}
use Rattle.board_core.proofs.Leasts.{AnyOf, least_more, left_there}
use Rattle.board_core.proofs.covers.least_covered.Goals as goal

pub loop-i-preserved : goal.loop-i-preserved
loop-i-preserved g c =
    let p = c.args.design.now.parts in
    let b = c.args.board.now in
    let i = c.loop-i.i in
    let x : ℕ × ℕ = (c.in_ok-pair.pair.0.0, c.in_ok-pair.pair.1) in
    let S = λ (y : ℕ × ℕ) (id : ℕ). IsCoveredPair p b.live c.args.client c.args.layers.now c.args.area.now y id in
    let there : slice_get b.held i ≡ Some x = ap (λ (xs : List (ℕ × ℕ)). slice_get xs i) (sym c.held-in-loop-i.ensures) ∙ c.in_ok-pair.ensures.some in
    let cut = ap (held_most p b.live c.args.layers.now c.args.area.now) (left_there b.held i x there) in record {
      least = subst (λ (r : Option ℕ). IsLeast (λ id. AnyOf (λ (y : ℕ × ℕ). S y id) (take (i + 1) b.held)) r) (sym c.lesser-least.ensures)
          (least_more S b.held i x c.loop-i.least c.covered.result there c.loop-i.invariant.least c.covered.ensures.least);
      cost = omega (arith, cut, c.covered.ensures.cost, c.loop-i.invariant.cost);
    }

pub returns-clause-least : goal.returns-clause-least
returns-clause-least g c =
    let p = c.args.design.now.parts in
    let b = c.args.board.now in
    let same = ap length c.held.ensures in
    let past : length b.held ≤ c.loop-i.i = omega (arith, c.loop-i-test.false, c.len-i-end.ensures.len, same) in
    covers_least p b c.args.client c.args.layers.now c.args.area.now c.loop-i.least
    (subst (λ (xs : List (ℕ × ℕ)). IsLeast (λ id. AnyOf (λ (y : ℕ × ℕ). IsCoveredPair p b.live c.args.client c.args.layers.now c.args.area.now y id) xs) c.loop-i.least) (take_all c.loop-i.i b.held past) c.loop-i.invariant.least)
