use Rattle.std.proofs.Common.{refl, subst, List, take, slice_index_or}
use Rattle.std.specs.Prelude.{Some, None, ℕ}
use Rattle.board_core.specs.Edits.{IsDeleteReason}
use Rattle.board_core.proofs.Reasons.{deletes_here, deletes_on}
use Rattle.board_core.proofs.deletes.deletes_why.Goals as goal

pub returns-in-Some : goal.returns-in-Some
returns-in-Some c =
    let id = slice_index_or c.args.deletes.now c.loop-i.i 0 in
    let here : IsDeleteReason c.args.board.now.live (take c.loop-i.i c.args.deletes.now) id (Some c.in-Some.why) = subst (λ (front : List ℕ). IsDeleteReason c.args.board.now.live front id (Some c.in-Some.why)) c.split_at.ensures.front c.in-Some.ensures in
    c.loop-i.invariant _ (deletes_here c.args.board.now.live c.args.deletes.now c.loop-i.i id c.in-Some.why c.loop-i-test.true refl here)

pub loop-i-preserved : goal.loop-i-preserved
loop-i-preserved c =
    let id = slice_index_or c.args.deletes.now c.loop-i.i 0 in
    let here : IsDeleteReason c.args.board.now.live (take c.loop-i.i c.args.deletes.now) id None = subst (λ (front : List ℕ). IsDeleteReason c.args.board.now.live front id None) c.split_at.ensures.front c.in_default.ensures in
    λ w more. c.loop-i.invariant w (deletes_on c.args.board.now.live c.args.deletes.now c.loop-i.i id c.loop-i-test.true refl here w more)
