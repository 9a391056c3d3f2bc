use Rattle.std.proofs.Common.{arith, ap, ℕ, List, subst, sym, get_or, false}
use Rattle.std.specs.Prelude.{Any, IsTrue, ◌↔◌, Bool}
use Rattle.board_core.specs.Verdicts.{IsRightAdd}
use Rattle.std.proofs.lemmas.List.{take_all}
use Rattle.check_core.proofs.Adding.{marks_many, mark_at}
use Rattle.board_items.specs.declared.requests.Add.{Add}
use Rattle.board_items.specs.Formed.{IsFormedAdd}
use Rattle.board_rules.proofs.Walked.{left_is}
use Rattle.board_core.proofs.Leasts.{all_at}
use Rattle.board_core.specs.Costs.{adds_touch_most}
use Rattle.check_core.specs.Tries.{GrowsBy, IsMetByAdd}
use Rattle.check_core.proofs.Growth.{grows_more}
use Rattle.check_core.proofs.touched.adds_touched.Goals as goal

pub bounds-right-i : goal.bounds-right-i
bounds-right-i g c = let h = marks_many (λ (add : Add) (b : Bool). IsTrue b ↔ IsRightAdd c.args.design.now.parts add) c.args.adds.now c.args.right.now c.requires.right in let lt = c.loop-i-test.true in omega (arith, h, lt)

pub add_touched-requires : goal.add_touched-requires
add_touched-requires g c = record {
  formed = subst IsFormedAdd (sym c.index-adds-i.is) (all_at IsFormedAdd c.args.adds.now c.loop-i.i c.index-adds-i.result c.loop-i-test.true c.requires.formed);
  right = subst (λ (add : Add). IsTrue (get_or c.args.right.now c.loop-i.i false) ↔ IsRightAdd c.args.design.now.parts add) (sym c.index-adds-i.is)
      (mark_at (λ (add : Add) (b : Bool). IsTrue b ↔ IsRightAdd c.args.design.now.parts add) c.args.adds.now c.args.right.now c.loop-i.i c.index-adds-i.result false c.loop-i-test.true c.requires.right);
}

pub returns-in_err-add_touched-clause-cost : goal.returns-in_err-add_touched-clause-cost
returns-in_err-add_touched-clause-cost g c =
    let cut = ap (adds_touch_most c.args.design.now.parts c.args.board.now.fences) (left_is c.args.adds.now c.loop-i.i c.index-adds-i.result c.loop-i-test.true c.index-adds-i.is) in
    omega (arith, cut, c.add_touched.ensures.cost, c.loop-i.invariant.cost)

pub loop-i-preserved : goal.loop-i-preserved
loop-i-preserved g c =
    let cut = ap (adds_touch_most c.args.design.now.parts c.args.board.now.fences) (left_is c.args.adds.now c.loop-i.i c.index-adds-i.result c.loop-i-test.true c.index-adds-i.is) in record {
      found = grows_more (λ (add : Add) (n : ℕ). IsMetByAdd c.args.design.now.parts c.args.board.now add n) c.args.adds.now c.loop-i.i c.index-adds-i.result _ _ _ c.loop-i-test.true c.index-adds-i.is c.loop-i.invariant.found c.in_ok-add_touched.ensures.found;
      cost = omega (arith, cut, c.add_touched.ensures.cost, c.loop-i.invariant.cost);
    }

pub returns-clause-found : goal.returns-clause-found
returns-clause-found g c =
    subst (λ (xs : List Add). GrowsBy (λ n. Any (λ (add : Add). IsMetByAdd c.args.design.now.parts c.args.board.now add n) xs) c.args.found.now c.loop-i.found) (take_all c.loop-i.i c.args.adds.now c.loop-i-test.false) c.loop-i.invariant.found
