use Rattle.board_rules.specs.Rules.{under}
use Rattle.check_core.proofs.KeptPairs.{ArePairsKept}
use Rattle.check_core.proofs.pairs.least_pair.Given as goal

-- The pairs so far are kept.
abbrev pub invariant-loop-i : goal.invariant-loop-i
invariant-loop-i g l = ArePairsKept l.design.parts (under l.rules) l.design.parts.items l.i
