use Rattle.std.proofs.Common.{◌≡◌, ◌++◌, ◌-◌, ◌*◌, map}
use Rattle.std.specs.List.{flat_map, range_with_len}
use Rattle.session_wire.specs.Lines.{step_line}
use Rattle.board_maker.specs.Draws.{state_at}
use Rattle.board_maker.specs.Scripts.{made_step, script_text}
use Rattle.board_maker.proofs.script.made_script.Given as goal

abbrev pub invariant-loop-line : goal.invariant-loop-line
invariant-loop-line l = record {
  state : l.draws.state ≡ state_at l.number (4 * l.line);
  so_far : l.made ++ flat_map step_line (map (made_step l.nets l.number) (range_with_len l.line (4 * l.nets - l.line))) ≡ script_text l.nets l.number;
}
