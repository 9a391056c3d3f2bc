use Rattle.std.proofs.Common.{◌≡◌, ◌+◌, [], ◌∷◌, ◌++◌, List, refl, sym, drop, subst, ap, ◌∙◌, append_assoc}
use Rattle.std.proofs.Math.ListN.{drop_of_length-le}
use Rattle.std.proofs.lemmas.List.{append-nil}
use Rattle.session_wire.specs.declared.steps.ScriptStep.{ScriptStep}
use Rattle.script_replay.specs.Scripts.{events_of_steps}
use Rattle.script_replay.specs.declared.master.Answered.{Answered}
use Rattle.script_replay.specs.Replays.{Serves}
use Rattle.script_replay.proofs.Serving.{IsBehind, drop_at, step_present, behind_one, serves_first}
use Rattle.script_replay.proofs.master.answer_steps.Goals as goal

pub answer_step-requires-clause-present : goal.answer_step-requires-clause-present
answer_step-requires-clause-present g c =
    let history = c.loop-step.run.master.history in
    let script = c.args.script.now in
    let i = c.loop-step.step-index in
    let at : drop i script ≡ c.step-item.result ∷ drop (i + 1) script = drop_at script i c.step-item.result c.loop-step-test.true c.step-item.is in
    step_present history c.step-item.result (drop (i + 1) script) (subst (IsBehind history) at c.loop-step.invariant.behind)

pub loop-step-preserved : goal.loop-step-preserved
loop-step-preserved g c =
    let d = c.args.design.now in
    let old = c.loop-step.run.master.history in
    let new = c.answer_step.new.master.history in
    let script = c.args.script.now in
    let i = c.loop-step.step-index in
    let s = c.step-item.result in
    let a = c.in_ok-answered.answered in
    let at : drop i script ≡ s ∷ drop (i + 1) script = drop_at script i s c.loop-step-test.true c.step-item.is in
    record {
      behind = behind_one d old new s (drop (i + 1) script) a (subst (IsBehind old) at c.loop-step.invariant.behind) c.in_ok-answered.ensures.served;
      master = c.in_ok-answered.ensures.master;
      completes = λ more last rest.
          let first = serves_first d old new last s (drop (i + 1) script) a more c.in_ok-answered.ensures.served rest in
          let here : Serves d old (events_of_steps (drop i script)) (a ∷ more) last = subst (λ (steps : List ScriptStep). Serves d old (events_of_steps steps) (a ∷ more) last) (sym at) first in
          let answers : c.loop-step.run.answers ++ (a ∷ more) ≡ c.push.new.self ++ more =
          sym (append_assoc c.loop-step.run.answers (a ∷ []) more) ∙ ap (λ (x : List Answered). x ++ more) (sym c.in_ok-push.ensures) in
          subst (λ (x : List Answered). Serves d [] (events_of_steps script) x last) answers (c.loop-step.invariant.completes (a ∷ more) last here);
    }

pub returns-clause-run : goal.returns-clause-run
returns-clause-run g c =
    let run = c.loop-step.run in
    let d = c.args.design.now in
    let script = c.args.script.now in
    let done : drop c.loop-step.step-index script ≡ [] = drop_of_length-le script c.loop-step-test.false in
    let ended : Serves d run.master.history (events_of_steps (drop c.loop-step.step-index script)) [] run.master.history = rw done refl in
    subst (λ (a : List Answered). Serves d [] (events_of_steps script) a run.master.history) (append-nil run.answers) (c.loop-step.invariant.completes [] run.master.history ended)
