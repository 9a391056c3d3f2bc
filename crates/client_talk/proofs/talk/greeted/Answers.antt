use Rattle.std.proofs.Common.{Ok, Err, subst, sym}
use Rattle.answer_lines.specs.Answers.{IsHello}
use Rattle.client_talk.specs.declared.stop.Stop.TheVariants.{Refused}
use Rattle.client_talk.specs.Hears.{HasHeard}
use Rattle.client_talk.specs.Talks.{HasGreeted}
use Rattle.client_talk.proofs.Wires.{across_weaker}
use Rattle.client_talk.proofs.Answering.{not_hello}
use Rattle.client_talk.proofs.talk.greeted.Goals as goal

pub returns-then-not-is_hello-clause-greeted : goal.returns-then-not-is_hello-clause-greeted
returns-then-not-is_hello-clause-greeted g c =
    let line = c.in_ok-line.line in
    let old = c.args.input.now in
    let new = c.hear_line.new.input in
    let o = (g.O.Sink.told c.args.out.now).written in
    let p = (g.O.Sink.told c.hear_line.new.out).written in
    let none : IsHello line → ⊥ = λ e. let t = c.if-not-is_hello.ensures.1 (subst IsHello (sym c.as_slice.ensures) e) in absurd cc in
    across_weaker ((g.L.Link.told c.args.link.now).wire) ((g.L.Link.told c.hear_line.new.link).wire) (HasHeard old new o p (Ok line)) (HasGreeted {T = Unit {0}} old new o p (Err Refused)) c.in_ok-line.ensures.heard (λ a b h. not_hello line old new o p a b h none)
