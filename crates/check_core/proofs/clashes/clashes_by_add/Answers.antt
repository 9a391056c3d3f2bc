use Rattle.std.proofs.Common.{◌≡◌, ◌+◌, ◌++◌, [], ◌∙◌, ℕ, List, subst, sym, ap, arith, refl, get_or, false}
use Rattle.std.specs.Prelude.{IsTrue, ◌↔◌, Bool}
use Rattle.std.proofs.lemmas.List.{append_assoc, append-nil}
use Rattle.board_items.specs.declared.requests.Add.{Add}
use Rattle.board_items.specs.Adds.{item_of_add}
use Rattle.board_rules.specs.Needs.{largest_of}
use Rattle.board_rules.proofs.Walked.{left_is, unwalked, ended}
use Rattle.board_core.specs.Verdicts.{IsRightAdd}
use Rattle.check_core.specs.CheckCosts.{near_adds_most}
use Rattle.check_core.specs.NearCosts.{near_most}
use Rattle.check_core.specs.Tries.{AreClashes, paired}
use Rattle.check_core.proofs.Adding.{marks_many, mark_at}
use Rattle.check_core.proofs.clashes.clashes_by_add.Goals as goal

pub bounds-right-i : goal.bounds-right-i
bounds-right-i g c =
    let h = marks_many (λ (add : Add) (b : Bool). IsTrue b ↔ IsRightAdd c.args.design.now.parts add) c.args.adds.now c.args.right.now c.requires.right in
    let lt = c.loop-i-test.true in omega (arith, h, lt)

pub add_clashes-requires-clause-right : goal.add_clashes-requires-clause-right
add_clashes-requires-clause-right g c =
    subst (λ (add : Add). IsTrue (get_or c.args.right.now c.loop-i.i false) ↔ IsRightAdd c.args.design.now.parts add) (sym c.index-adds-i.is)
    (mark_at (λ (add : Add) (b : Bool). IsTrue b ↔ IsRightAdd c.args.design.now.parts add) c.args.adds.now c.args.right.now c.loop-i.i c.index-adds-i.result false c.loop-i-test.true c.requires.right)

pub loop-i-preserved : goal.loop-i-preserved
loop-i-preserved g c =
    let p = c.args.design.now.parts in
    let b = c.args.board.now in
    let adds = c.args.adds.now in
    let i = c.loop-i.i in
    let add = c.index-adds-i.result in
    let ids = c.in_ok-ids.ids in
    let cut = ap (near_adds_most p (largest_of p b.rules) b.live) (left_is adds i add c.loop-i-test.true c.index-adds-i.is) in
    let by : c.largest_clearance-by.result ≡ largest_of p b.rules = c.largest_clearance-by.ensures.largest ∙ ap (largest_of p) c.rules_of.ensures.rules in
    let taken = ap (λ (n : ℕ). near_most p n (item_of_add add) b.live) by in record {
      so_far = λ more h. subst (AreClashes p b c.args.deletes.now 1 adds) (sym (ap (λ (l : List (ℕ × ℕ)). l ++ more) (c.in_ok-put_pairs.ensures refl ∙ ap (λ (l : List ℕ). c.loop-i.pairs ++ paired (i + 1) l) c.as_slice.ensures) ∙ append_assoc c.loop-i.pairs (paired (i + 1) ids) more))
          (c.loop-i.invariant.so_far (paired (i + 1) ids ++ more)
          (unwalked (λ (ys : List Add). AreClashes p b c.args.deletes.now (i + 1) ys (paired (i + 1) ids ++ more)) adds i add c.loop-i-test.true c.index-adds-i.is (ids, more, refl, c.in_ok-ids.ensures.near, h)));
      cost = omega (arith, cut, taken, c.loop-i.invariant.cost, c.add_clashes.ensures.cost);
    }

pub returns-clause-clashes : goal.returns-clause-clashes
returns-clause-clashes g c =
    let p = c.args.design.now.parts in
    let b = c.args.board.now in
    subst (AreClashes p b c.args.deletes.now 1 c.args.adds.now) (append-nil c.loop-i.pairs)
    (c.loop-i.invariant.so_far [] (ended (λ (ys : List Add). AreClashes p b c.args.deletes.now (c.loop-i.i + 1) ys []) c.args.adds.now c.loop-i.i c.loop-i-test.false refl))
