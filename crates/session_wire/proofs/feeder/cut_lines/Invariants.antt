use Rattle.std.proofs.Common.{◌≡◌, ◌++◌, length}
use Rattle.std.specs.List.{flat_map, AllByRecursion}
use Rattle.session_wire.specs.Steps.{IsLine}
use Rattle.session_wire.specs.Kept.{ended}
use Rattle.session_wire.proofs.feeder.cut_lines.Given as goal

abbrev pub invariant-lines : goal.invariant-lines
invariant-lines l = record {
  whole : l.before ++ l.piece ≡ flat_map ended l.lines.items ++ (l.line ++ l.rest);
  formed : AllByRecursion IsLine l.lines.items;
  unended : IsLine l.line;
}

abbrev pub decreases-lines : goal.decreases-lines
decreases-lines l = length l.rest
