use Rattle.std.proofs.Common.{◌≡◌, List, ap, ◌∙◌}
use Rattle.script_replay.specs.declared.master.Answered.{Answered}
use Rattle.script_replay.specs.Replays.{output_of}
use Rattle.script_replay.proofs.Replayed.{is_run}
use Rattle.script_replay.proofs.replay.replay_steps.Goals as goal

pub returns : goal.returns
returns c =
    let r = c.in_ok-replayed.replayed in
    let output : c.in_ok-output.output ≡ output_of r.answers r.master.journal =
    c.in_ok-output.ensures ∙ ap (λ (a : List Answered). output_of a c.as_slice-2.result.now) c.as_slice.ensures ∙ ap (output_of r.answers) c.as_slice-2.ensures in
    is_run c.args.design.now c.args.script.now r c.in_ok-output.output c.in_ok-session.session c.every_journal_is_shielded.ensures
    (λ p clients limit calls k first legal. c.every_board_is_clean.ensures p clients limit calls k first legal) c.requires.clean c.in_ok-replayed.ensures.run c.in_ok-replayed.ensures.master
    output c.in_ok-session.ensures
