use Rattle.std.proofs.Common.{◌+◌, List, drop}
use Rattle.seg_geometry.specs.declared.near.Filed.{Filed}
use Rattle.board_core.specs.Boards.{made_from}
use Rattle.check_core.specs.Changes.{LengthensWithin}
use Rattle.check_core.specs.Filings.{EntersAll}
use Rattle.check_core.proofs.following.enter_adds.Given as goal

-- What the adds that are left enter makes what all enter, and each has a number of its own.
abbrev pub invariant-loop-i : goal.invariant-loop-i
invariant-loop-i g l = record {
  made : (last : List Filed) → EntersAll l.design.parts.stacks (made_from (l.first + l.i) (drop l.i l.adds)) (g.N.Near.filed l.near) last → EntersAll l.design.parts.stacks (made_from l.first l.adds) (g.N.Near.filed l.initial.near) last;
  own : LengthensWithin l.first (l.first + l.i) (g.N.Near.filed l.initial.near) (g.N.Near.filed l.near);
}
