use Rattle.std.proofs.Common.{take}
use Rattle.number_slots.specs.Slots.{numbered}
use Rattle.check_core.specs.Filings.{EntersAll}
use Rattle.check_core.proofs.entering.enter_loaded.Given as goal

-- The items so far are entered.
abbrev pub invariant-loop-i : goal.invariant-loop-i
invariant-loop-i g l = EntersAll l.design.parts.stacks (numbered 1 (take l.i l.design.parts.items)) (g.N.Near.filed l.initial.near) (g.N.Near.filed l.near)
