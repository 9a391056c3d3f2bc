use Rattle.std.proofs.Common.{◌≡◌, ◌++◌, ◌∷◌, [], List, false, sym, subst, ◌∙◌, ap}
use Rattle.std.specs.List.{flat_map}
use Rattle.number_slots.specs.Slots.{is_among}
use Rattle.session_wire.specs.declared.steps.ScriptStep.{ScriptStep}
use Rattle.session_wire.specs.Lines.{step_line}
use Rattle.script_replay.specs.Scripts.{AreDue, client_of}
use Rattle.script_replay.specs.Lines.{AreGone}
use Rattle.script_replay.proofs.Steps.{due_next, gone_next, text_more}
use Rattle.script_replay.proofs.script.read_lines.Goals as goal

pub loop-rest-preserved : goal.loop-rest-preserved
loop-rest-preserved c =
    let gone = c.loop-rest.gone in
    let steps = c.loop-rest.steps in
    let s = c.in-Some.step in
    let found = rw c.in-Some.is at c.in_ok-first_present.ensures.step in
    let here = rw c.in-Some.is at c.in_ok-first_present.ensures.present in
    let present : is_among (client_of s) gone ≡ false = ap (is_among (client_of s)) (sym c.as_slice.ensures) ∙ here in
    let pushed : c.push.new.self ≡ steps ++ s ∷ [] = c.in_ok-push-in-Some.ensures in
    record {
      due = subst (AreDue []) (sym pushed) (due_next gone steps s c.loop-rest.invariant.gone c.loop-rest.invariant.due found.0 present);
      gone = subst (AreGone c.note_leave.new.gone) (sym pushed) (gone_next gone c.note_leave.new.gone steps s c.loop-rest.invariant.gone c.in_ok-note_leave-in-Some.ensures);
      parts = subst (λ (x : List ScriptStep). c.args.text.now ≡ flat_map step_line x ++ c.in-Some.after.now) (sym pushed) (text_more steps s c.args.text.now c.loop-rest.rest.now c.in-Some.after.now c.loop-rest.invariant.parts found.1);
    }
