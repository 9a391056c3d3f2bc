use Rattle.std.proofs.Common.{◌≡◌, ◌+◌, ℕ, length, ap, Option, None, Some, subst}
use Rattle.board_items.specs.declared.history.Why.{Why}
use Rattle.board_core.specs.Answers.{IsAnswer}
use Rattle.serial_master.proofs.Taking.{done_decided, no_decided}
use Rattle.serial_master.proofs.books.decide.Goals as goal

pub returns-in-Some-clause-ok : goal.returns-in-Some-clause-ok
returns-in-Some-clause-ok g c =
    let b = c.args.books.now in
    let t = c.args.terms.now in
    let some : IsAnswer t.design.parts t.clients b.board c.args.client c.args.request (Some c.in-Some.why) =
    subst (λ (w : Option Why). IsAnswer t.design.parts t.clients b.board c.args.client c.args.request w) c.in-Some.is c.slow_answer.ensures.answer in
    no_decided t b c.args.client c.args.request c.in-Some.why c.requires.at some

pub returns-in_ok-take-in-None-clause-ok : goal.returns-in_ok-take-in-None-clause-ok
returns-in_ok-take-in-None-clause-ok g c =
    let b = c.args.books.now in
    let t = c.args.terms.now in
    let none : IsAnswer t.design.parts t.clients b.board c.args.client c.args.request None =
    subst (λ (w : Option Why). IsAnswer t.design.parts t.clients b.board c.args.client c.args.request w) c.in-None.is c.slow_answer.ensures.answer in
    let number : c.len.result + 1 ≡ length b.journal.items + 1 = ap (λ (n : ℕ). n + 1) c.len.ensures in
    done_decided t b c.take.new.books c.args.client (c.len.result + 1) c.args.request c.requires.at none number c.in_ok-take-in-None.ensures.ok
