use Rattle.std.proofs.Common.{sym, subst, List, ℕ, arith}
use Rattle.std.specs.Prelude.{Some}
use Rattle.board_items.specs.declared.requests.Add.{Add}
use Rattle.board_core.specs.Edits.{IsBoardReason}
use Rattle.board_core.proofs.Near.{static_within, edit_within}
use Rattle.board_core.specs.Answers.{IsAnswer}
use Rattle.board_items.specs.declared.requests.Request.{Request}
use Rattle.board_core.proofs.Reasons.{answered, static_answered, fence_answered, class_there, rule_answered}
use Rattle.board_core.proofs.answer.slow_answer.Goals as goal

pub returns-in-Edit-clause-answer : goal.returns-in-Edit-clause-answer
returns-in-Edit-clause-answer g c =
    let p = c.args.design.now.parts in
    let b = c.args.board.now in
    let told = c.board_why.ensures.reason in
    let ids : IsBoardReason p b c.args.client c.in-Edit.deletes c.as_slice-in-Edit.result.now c.board_why.result = subst (λ (x : List ℕ). IsBoardReason p b c.args.client x c.as_slice-in-Edit.result.now c.board_why.result) c.as_slice.ensures told in
    let both : IsBoardReason p b c.args.client c.in-Edit.deletes c.in-Edit.adds c.board_why.result = subst (λ (x : List Add). IsBoardReason p b c.args.client c.in-Edit.deletes x c.board_why.result) c.as_slice-in-Edit.ensures ids in
    answered p b c.args.clients c.args.client c.args.request.now c.in-Edit.deletes c.in-Edit.adds c.board_why.result c.in-Edit.is (rw c.rules_view.ensures.rules at c.in_default.ensures.reason) both

pub returns-in-Some-clause-answer : goal.returns-in-Some-clause-answer
returns-in-Some-clause-answer g c = static_answered c.args.design.now.parts c.args.board.now c.args.clients c.args.client c.args.request.now c.in-Some.why (rw c.rules_view.ensures.rules at c.in-Some.ensures.reason)

pub returns-in-Release-clause-answer : goal.returns-in-Release-clause-answer
returns-in-Release-clause-answer g c = subst (λ (r : Request). IsAnswer c.args.design.now.parts c.args.clients c.args.board.now c.args.client r c.release_why.result) (sym c.in-Release.is) c.release_why.ensures

pub returns-in-Fence-clause-answer : goal.returns-in-Fence-clause-answer
returns-in-Fence-clause-answer g c =
    fence_answered c.args.design.now.parts c.args.board.now c.args.clients c.args.client c.args.request.now c.in-Fence.layers c.in-Fence.area _ c.fence_why.result c.in-Fence.is (rw c.rules_view.ensures.rules at c.in_default.ensures.reason) c.fence_why.ensures.reason

pub returns-in-Some-clause-cost : goal.returns-in-Some-clause-cost
returns-in-Some-clause-cost g c =
    let most = static_within c.args.design.now.parts c.args.board.now c.args.request.now (Some c.in-Some.why) in omega (arith, most, c.static_why.ensures.cost)

pub returns-in-Edit-clause-cost : goal.returns-in-Edit-clause-cost
returns-in-Edit-clause-cost g c =
    let all = edit_within c.args.design.now.parts c.args.board.now c.args.request.now c.in-Edit.deletes c.in-Edit.adds c.board_why.result c.in-Edit.is in
    let taken = rw (c.as_slice.ensures, c.as_slice-in-Edit.ensures) at c.board_why.ensures.cost in omega (arith, all, taken, c.static_why.ensures.cost)

pub unclean_why-requires-clause-there : goal.unclean_why-requires-clause-there
unclean_why-requires-clause-there g c = class_there c.args.design.now.parts _ c.args.clients c.args.request.now c.in-Rule.class c.in-Rule.clearance c.in-Rule.is c.in_default.ensures.reason

pub returns-in-Rule-clause-answer : goal.returns-in-Rule-clause-answer
returns-in-Rule-clause-answer g c =
    rule_answered c.args.design.now.parts c.args.board.now c.args.clients c.args.client c.args.request.now c.in-Rule.class c.in-Rule.clearance c.unclean_why.result c.in-Rule.is (rw c.rules_view.ensures.rules at c.in_default.ensures.reason) c.unclean_why.ensures.reason
