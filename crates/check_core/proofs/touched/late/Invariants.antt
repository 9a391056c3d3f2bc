use Rattle.std.proofs.Common.{ℕ, [], take}
use Rattle.std.specs.Prelude.{Any}
use Rattle.check_core.specs.Tries.{GrowsBy, IsLateDelete}
use Rattle.check_core.proofs.touched.late.Given as goal

-- The deletes so far that aren't live have come.
abbrev pub invariant-loop-id : goal.invariant-loop-id
invariant-loop-id l = GrowsBy (λ n. Any (λ (id : ℕ). IsLateDelete l.board.live id n) (take l.id-index l.deletes)) [] l.found
