use Rattle.std.proofs.Common.{◌≡◌, ◌++◌, [], length}
use Rattle.std.specs.List.{flat_map}
use Rattle.session_wire.specs.Lines.{step_line}
use Rattle.script_replay.specs.Scripts.{AreDue}
use Rattle.script_replay.specs.Lines.{AreGone}
use Rattle.script_replay.proofs.script.read_lines.Given as goal

abbrev pub invariant-loop-rest : goal.invariant-loop-rest
invariant-loop-rest l = record {
  due : AreDue [] l.steps;
  gone : AreGone l.gone l.steps;
  parts : l.text ≡ flat_map step_line l.steps ++ l.rest;
}

abbrev pub decreases-loop-rest : goal.decreases-loop-rest
decreases-loop-rest l = length l.rest
