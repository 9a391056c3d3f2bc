use Rattle.session_wire.proofs.StepTexts.{no_reading}
use Rattle.script_replay.proofs.Steps.{no_step}
use Rattle.script_replay.proofs.script.first_step.Goals as goal

pub returns-in-Err-Bad-clause-none : goal.returns-in-Err-Bad-clause-none
returns-in-Err-Bad-clause-none c =
    let bad = rw c.in-Err-Bad.field-0-is at c.in-Err-Bad.ensures.fault in
    let none = no_reading c.in-Some.line.now c.in-Err-Bad.field-0-0 bad in
    no_step c.args.text.now c.in-Some.line.now c.in-Some.after.now c.in-Some.ensures.0 c.in-Some.ensures.1 (λ s is e. none s (record { formed = is; spelled = e }))
