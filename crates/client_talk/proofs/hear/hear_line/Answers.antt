use Rattle.std.proofs.Common.{List, ℕ, Ok, Err, Result, subst}
use Rattle.layout_io.specs.Links.{Across}
use Rattle.session_wire.specs.Kept.{ended}
use Rattle.client_talk.specs.declared.stop.Stop.{Stop}
use Rattle.client_talk.specs.Hears.{HasLine, HasHeard, HasPrinted, OutCause}
use Rattle.client_talk.proofs.Wires.{across_weaker, err_as}
use Rattle.client_talk.proofs.Hearing.{print_stop, out_still}
use Rattle.client_talk.proofs.hear.hear_line.Goals as goal

pub returns-in_err-line-clause-out_cause : goal.returns-in_err-line-clause-out_cause
returns-in_err-line-clause-out_cause g c =
    let n = (g.O.Sink.told c.args.out.now).faults in
    err_as _ c.in_err-line.field-0.0 (λ (res : Result (List ℕ) Stop). OutCause n n res) c.from_residual.ensures.1 (out_still (List ℕ) c.in_err-line.field-0.0 n c.in_err-line.ensures.only)

pub returns-in_err-print_line-clause-heard : goal.returns-in_err-print_line-clause-heard
returns-in_err-print_line-clause-heard g c =
    let stop = c.in_err-print_line.field-0.0 in
    let line = c.in_ok-line.line in
    let old = c.args.input.now in
    let new = c.next_line.new.input in
    let o = (g.O.Sink.told c.args.out.now).written in
    let p = (g.O.Sink.told c.print_line.new.out).written in
    let u = (g.L.Link.told c.args.link.now).wire in
    let v = (g.L.Link.told c.next_line.new.link).wire in
    err_as _ stop (λ (res : Result (List ℕ) Stop). Across u v (HasHeard old new o p res)) c.from_residual-in_err-print_line.ensures.1
    (across_weaker u v (HasLine old new (Ok line)) (HasHeard old new o p (Err stop)) c.in_ok-line.ensures.line (λ a b h. print_stop stop line old new o p a b h (subst (λ (x : List ℕ). HasPrinted {T = Unit {0}} (ended x) o p (Err stop)) c.as_slice.ensures c.in_err-print_line.ensures.printed)))
