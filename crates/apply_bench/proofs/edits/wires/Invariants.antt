use Rattle.std.specs.List.{AllByRecursion}
use Rattle.board_items.specs.Formed.{IsFormedAdd}
use Rattle.apply_bench.proofs.edits.wires.Given as goal

-- The wires so far are formed.
abbrev pub invariant-loop-place : goal.invariant-loop-place
invariant-loop-place l = AllByRecursion IsFormedAdd l.adds
