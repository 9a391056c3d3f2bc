use Rattle.std.proofs.Common.{◌≡◌, ◌++◌, drop, map}
use Rattle.board_core.specs.Made.{made_item}
use Rattle.board_core.proofs.made.made.Given as goal

-- What is made, and what the adds that are left make, is what all make.
abbrev pub invariant-loop-add : goal.invariant-loop-add
invariant-loop-add l = l.made.items ++ map made_item (drop l.add-index l.adds) ≡ map made_item l.adds
