use Rattle.std.proofs.Common.{ℕ, List, [], subst}
use Rattle.std.specs.Prelude.{Any, ◌↔◌}
use Rattle.std.specs.List.{Contains}
use Rattle.std.proofs.lemmas.List.{take_all}
use Rattle.check_core.specs.Tries.{GrowsBy, IsLateDelete}
use Rattle.check_core.proofs.Growth.{grows_at}
use Rattle.check_core.proofs.Meeting.{late_exact}
use Rattle.check_core.proofs.touched.late.Goals as goal

pub loop-id-preserved : goal.loop-id-preserved
loop-id-preserved c = grows_at (λ (id : ℕ) (n : ℕ). IsLateDelete c.args.board.now.live id n) c.args.deletes.now c.loop-id.id-index 0 [] _ _ c.loop-id-test.true c.loop-id.invariant c.in_ok-put_late.ensures

pub returns-clause-exact : goal.returns-clause-exact
returns-clause-exact c =
    let grown = subst (λ (xs : List ℕ). GrowsBy (λ n. Any (λ (id : ℕ). IsLateDelete c.args.board.now.live id n) xs) [] c.loop-id.found) (take_all c.loop-id.id-index c.args.deletes.now c.loop-id-test.false) c.loop-id.invariant in
    let same = subst (λ (l : List ℕ). (n : ℕ) → Contains c.rising.result n ↔ Contains l n) c.into_vec.ensures c.rising.ensures.same in
    late_exact c.args.board.now.live c.args.deletes.now c.loop-id.found c.rising.result grown same
