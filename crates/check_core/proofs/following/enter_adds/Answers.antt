use Rattle.std.proofs.Common.{◌≡◌, ◌+◌, ◌∷◌, ℕ, List, length, drop, subst, sym, arith}
use Rattle.std.proofs.lemmas.List.{drop_all}
use Rattle.board_items.specs.declared.requests.Add.{Add}
use Rattle.board_rules.specs.FitAdds.{IsFitAdd}
use Rattle.board_rules.proofs.Walked.{left_is}
use Rattle.board_core.specs.Boards.{made_of, made_from}
use Rattle.board_core.proofs.Leasts.{all_at}
use Rattle.check_core.specs.Filings.{EntersAll}
use Rattle.check_core.proofs.Leaving.{enters_join, enters_nothing, within_join, within_wider}
use Rattle.check_core.proofs.following.enter_adds.Goals as goal

pub enter_add-requires : goal.enter_add-requires
enter_add-requires g c =
    subst (IsFitAdd c.args.design.now.parts) (sym c.index-adds-i.is) (all_at (IsFitAdd c.args.design.now.parts) c.args.adds.now c.loop-i.i c.index-adds-i.result c.loop-i-test.true c.requires.fit)

pub returns-in_err-enter_add-clause-own : goal.returns-in_err-enter_add-clause-own
returns-in_err-enter_add-clause-own g c =
    let i = c.loop-i.i in
    let first = c.args.first in
    let lt = c.loop-i-test.true in
    within_join first (first + i) (first + length c.args.adds.now) _ _ _ (omega arith) (omega (arith, lt)) c.loop-i.invariant.own
    (within_wider (first + i) (first + i + 1) (first + length c.args.adds.now) _ _ (omega (arith, lt)) c.in_err-enter_add.ensures.own)

pub loop-i-preserved : goal.loop-i-preserved
loop-i-preserved g c =
    let p = c.args.design.now.parts in
    let i = c.loop-i.i in
    let first = c.args.first in
    let add = c.index-adds-i.result in
    let adds = c.args.adds.now in
    let next : first + i + 1 ≡ first + (i + 1) = omega arith in
    let cut : drop i adds ≡ add ∷ drop (i + 1) adds = left_is adds i add c.loop-i-test.true c.index-adds-i.is in record {
      made = λ last h. c.loop-i.invariant.made last
          (subst (λ (xs : List Add). EntersAll p.stacks (made_from (first + i) xs) (g.N.Near.filed c.loop-i.near) last) (sym cut)
          (enters_join p.stacks (made_of (first + i) add) (made_from (first + i + 1) (drop (i + 1) adds)) _ _ last c.in_ok-enter_add.ensures.made
          (subst (λ (n : ℕ). EntersAll p.stacks (made_from n (drop (i + 1) adds)) (g.N.Near.filed c.enter_add.new.near) last) (sym next) h)));
      own = within_join first (first + i) (first + (i + 1)) _ _ _ (omega arith) (omega arith) c.loop-i.invariant.own
          (within_wider (first + i) (first + i + 1) (first + (i + 1)) _ _ (omega arith) c.in_ok-enter_add.ensures.own);
    }

pub returns-clause-made : goal.returns-clause-made
returns-clause-made g c =
    let none = drop_all c.loop-i.i c.args.adds.now c.loop-i-test.false in
    let now = g.N.Near.filed c.loop-i.near in
    c.loop-i.invariant.made now (subst (λ (xs : List Add). EntersAll c.args.design.now.parts.stacks (made_from (c.args.first + c.loop-i.i) xs) now now) (sym none) (enters_nothing c.args.design.now.parts.stacks now))

pub returns-clause-own : goal.returns-clause-own
returns-clause-own g c =
    within_wider c.args.first (c.args.first + c.loop-i.i) (c.args.first + length c.args.adds.now) _ _ (omega arith) c.loop-i.invariant.own
