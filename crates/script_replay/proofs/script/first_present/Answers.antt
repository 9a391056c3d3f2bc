use Rattle.std.proofs.Common.{◌≡◌, ℕ, sym, ap, ◌∙◌, true}
use Rattle.number_slots.specs.Slots.{is_among}
use Rattle.script_replay.specs.Scripts.{client_of}
use Rattle.script_replay.proofs.Steps.{not_present}
use Rattle.script_replay.proofs.script.first_present.Goals as goal

pub returns-then-contains-clause-none : goal.returns-then-contains-clause-none
returns-then-contains-clause-none c =
    let among : is_among (client_of c.in-Some.step) c.args.gone.now ≡ true =
    ap (λ (n : ℕ). is_among n c.args.gone.now) (sym c.client_of_step.ensures) ∙ sym c.contains.ensures.value ∙ c.if-contains.true in
    let some = rw c.in-Some.is at c.in_ok-step.ensures.some in
    not_present c.args.gone.now c.args.text.now c.in-Some.after.now c.in-Some.step some.0 some.1 among
