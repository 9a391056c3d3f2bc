use Rattle.std.proofs.Common.{◌≡◌, ◌+◌, ◌++◌, ◌∷◌, [], ◌∙◌, refl, List, Bool, take, drop, subst, sym, ap, arith}
use Rattle.std.specs.Prelude.{Option, None, IsTrue, ◌↔◌, is_none}
use Rattle.std.proofs.lemmas.List.{take_all}
use Rattle.board_items.specs.declared.requests.Add.{Add}
use Rattle.board_items.specs.declared.history.Why.{Why}
use Rattle.board_core.specs.Verdicts.{IsRightAdd}
use Rattle.board_rules.specs.Reasons.{IsAddsReason}
use Rattle.board_rules.proofs.Counts.{adds_left}
use Rattle.board_rules.proofs.Walked.{unwalked, ended}
use Rattle.check_core.specs.Tries.{earlier_of, AreTried}
use Rattle.check_core.proofs.Adding.{right_told, earlier_apart, earlier_none, adds_next, mark_more, turned}
use Rattle.check_core.proofs.adds.try_each.Goals as goal

pub returns-in_err-push-clause-cost : goal.returns-in_err-push-clause-cost
returns-in_err-push-clause-cost g c =
    let left = adds_left c.args.design.now.parts c.args.adds.now c.loop-i.i c.index-adds-i.result c.loop-i-test.true c.index-adds-i.is in
    omega (arith, left, c.loop-i.invariant.cost, c.add_why-own.ensures.cost)

pub loop-i-preserved : goal.loop-i-preserved
loop-i-preserved g c =
    let p = c.args.design.now.parts in
    let adds = c.args.adds.now in
    let i = c.loop-i.i in
    let add = c.index-adds-i.result in
    let own = c.add_why-own.result in
    let left = adds_left p adds i add c.loop-i-test.true c.index-adds-i.is in
    let pushed : c.push.new.self ≡ c.loop-i.right ++ is_none own ∷ [] = c.in_ok-push.ensures ∙ ap (λ (b : Bool). c.loop-i.right ++ b ∷ []) (turned _ _ c.is_none.ensures) in record {
      right = subst (λ (marks : List Bool). AreTried p (take (i + 1) adds) marks) (sym pushed)
          (mark_more (λ (a : Add) (b : Bool). IsTrue b ↔ IsRightAdd p a) adds c.loop-i.right i add (is_none own) c.loop-i-test.true c.index-adds-i.is c.loop-i.invariant.right (right_told p (i + 1) add own c.add_why-own.ensures.reason));
      so_far = λ more h. subst (λ (w : Option Why). IsAddsReason p 1 adds (earlier_of w more)) (sym c.earlier-why.ensures)
          (subst (IsAddsReason p 1 adds) (sym (earlier_apart c.loop-i.why own more))
          (c.loop-i.invariant.so_far (earlier_of own more)
          (unwalked (λ (ys : List Add). IsAddsReason p (i + 1) ys (earlier_of own more)) adds i add c.loop-i-test.true c.index-adds-i.is (adds_next p (i + 1) add (drop (i + 1) adds) own more c.add_why-own.ensures.reason h))));
      cost = omega (arith, left, c.loop-i.invariant.cost, c.add_why-own.ensures.cost);
    }

pub returns-clause-why : goal.returns-clause-why
returns-clause-why g c =
    let p = c.args.design.now.parts in
    let adds = c.args.adds.now in
    subst (IsAddsReason p 1 adds) (earlier_none c.loop-i.why)
    (c.loop-i.invariant.so_far None (ended (λ (ys : List Add). IsAddsReason p (c.loop-i.i + 1) ys None) adds c.loop-i.i c.loop-i-test.false refl))

pub returns-clause-right : goal.returns-clause-right
returns-clause-right g c = subst (λ (xs : List Add). AreTried c.args.design.now.parts xs c.loop-i.right) (take_all c.loop-i.i c.args.adds.now c.loop-i-test.false) c.loop-i.invariant.right
