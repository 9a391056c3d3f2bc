use Rattle.std.proofs.Common.{◌≡◌, ◌+◌, ℕ, length, ap, Option, None, subst}
use Rattle.row_lists.specs.Limits.{client_limit}
use Rattle.board_items.specs.declared.requests.Request.{Request}
use Rattle.board_items.specs.declared.history.Act.TheVariants.{Ask}
use Rattle.board_items.specs.declared.history.Why.{Why}
use Rattle.board_core.specs.Answers.{IsAnswer}
use Rattle.script_replay.specs.Masters.{HasTaken}
use Rattle.script_replay.proofs.Journals.{done_decided}
use Rattle.script_replay.proofs.master.decide.Goals as goal

pub returns-in_ok-take-in-None : goal.returns-in_ok-take-in-None
returns-in_ok-take-in-None g c =
    let m = c.args.master.now in
    let d = c.args.design.now in
    let none : IsAnswer d.parts client_limit m.board c.args.client c.args.request.now None = subst (λ (w : Option Why). IsAnswer d.parts client_limit m.board c.args.client c.args.request.now w) c.in-None.is c.slow_answer.ensures.answer in
    let number : c.len.result + 1 ≡ length m.journal + 1 = ap (λ (n : ℕ). n + 1) c.len.ensures in
    let has : HasTaken d m c.args.client (Ask c.args.request.now) c.take.new.master =
    subst (λ (r : Request). HasTaken d m c.args.client (Ask r) c.take.new.master) c.in_ok-copy-in-None.ensures c.in_ok-take-in-None.ensures in
    done_decided d m c.take.new.master c.args.client (c.len.result + 1) c.args.request.now c.requires.at none number has
