use Rattle.board_rules.specs.Needs.{KeepsNeed}
use Rattle.board_rules.specs.Rules.{under}
use Rattle.number_slots.specs.Slots.{numbered}
use Rattle.check_core.proofs.Least.{AreKept}
use Rattle.check_core.proofs.nearest.first_of.Given as goal

-- The items so far are kept.
abbrev pub invariant-loop-id : goal.invariant-loop-id
invariant-loop-id g l = AreKept (KeepsNeed l.design.parts (under l.rules)) (numbered 1 l.design.parts.items) l.number l.item l.ids l.id-index
