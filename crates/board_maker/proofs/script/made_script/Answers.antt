use Rattle.std.proofs.Common.{ap, ◌∙◌, ◌++◌, ◌+◌, ◌*◌, ◌%◌}
use Rattle.std.specs.Fn.{iterate}
use Rattle.session_wire.specs.Lines.{step_line}
use Rattle.session_wire.specs.declared.steps.ScriptStep.TheVariants as steps
use Rattle.board_maker.specs.Draws.{next_state}
use Rattle.board_maker.specs.Picks.{picked_behind}
use Rattle.board_maker.specs.Scripts.{request_of, made_step}
use Rattle.board_maker.proofs.Counts.{one_made}
use Rattle.board_maker.proofs.States.{next_line, pick_is}
use Rattle.board_maker.proofs.script.made_script.Goals as goal

pub loop-line-preserved : goal.loop-line-preserved
loop-line-preserved c =
    let number = c.args.number in
    let nets = c.args.nets in
    let line = c.loop-line.line in
    let picked = c.pick-pick.ensures.picked ∙ ap picked_behind c.loop-line.invariant.state ∙ pick_is number line in
    let asked = c.in_ok-asked.ensures ∙ ap (request_of (line % nets) line) picked in
    let put = c.in_ok-put_step.ensures ∙ ap (λ r. c.loop-line.made ++ step_line (steps.Do (1 + line % 4) r)) asked in
    record {
      state = c.pick-pick.ensures.state ∙ ap (iterate next_state 4) c.loop-line.invariant.state ∙ next_line number line;
      so_far = one_made step_line (made_step nets number) c.loop-line.made c.put_step.new.to _ line (4 * nets) c.loop-line-test.true put c.loop-line.invariant.so_far;
    }
