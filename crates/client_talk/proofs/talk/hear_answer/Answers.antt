use Rattle.std.proofs.Common.{◌∙◌, Some, None, Ok, Err, Result, List, ℕ, subst}
use Rattle.layout_io.specs.Links.{Across}
use Rattle.answer_lines.specs.declared.answers.Goes.{Goes}
use Rattle.client_talk.specs.declared.stop.Stop.{Stop}
use Rattle.client_talk.specs.Hears.{HasHeard}
use Rattle.client_talk.specs.Talks.{HasAnswer, HasTaken}
use Rattle.client_talk.proofs.Wires.{across_then, across_weaker, err_as}
use Rattle.client_talk.proofs.Answering.{answer_before, answered_now, heard_stops, taken_stops}
use Rattle.client_talk.proofs.talk.hear_answer.Goals as goal

pub returns-in_err-line-clause-answer : goal.returns-in_err-line-clause-answer
returns-in_err-line-clause-answer g c =
    let stop = c.in_err-line.field-0.0 in
    let old = c.lines.input in
    let new = c.hear_line.new.input in
    let r = c.lines.replica in
    let o = (g.O.Sink.told c.lines.out).written in
    let p = (g.O.Sink.told c.hear_line.new.out).written in
    let u = (g.L.Link.told c.lines.link).wire in
    let v = (g.L.Link.told c.hear_line.new.link).wire in
    err_as _ stop (λ (res : Result Goes Stop). Across ((g.L.Link.told c.args.link.now).wire) v (HasAnswer c.args.input.now new c.args.replica.now r ((g.O.Sink.told c.args.out.now).written) p res)) c.from_residual.ensures.1
    (c.lines.invariant.going new r p (Err stop) v
    (across_weaker u v (HasHeard old new o p (Err stop)) (HasAnswer old new r r o p (Err stop)) c.in_err-line.ensures.heard (λ a b h. heard_stops stop old new r r o p a b h)))

pub returns-in_err-goes-clause-answer : goal.returns-in_err-goes-clause-answer
returns-in_err-goes-clause-answer g c =
    let stop = c.in_err-goes.field-0.0 in
    let line = c.in_ok-line.line in
    let old = c.lines.input in
    let new = c.hear_line.new.input in
    let r = c.lines.replica in
    let s = c.take_in.new.replica in
    let o = (g.O.Sink.told c.lines.out).written in
    let p = (g.O.Sink.told c.hear_line.new.out).written in
    let u = (g.L.Link.told c.lines.link).wire in
    let v = (g.L.Link.told c.hear_line.new.link).wire in
    err_as _ stop (λ (res : Result Goes Stop). Across ((g.L.Link.told c.args.link.now).wire) v (HasAnswer c.args.input.now new c.args.replica.now s ((g.O.Sink.told c.args.out.now).written) p res)) c.from_residual-in_err-goes.ensures.1
    (c.lines.invariant.going new s p (Err stop) v
    (across_weaker u v (HasHeard old new o p (Ok line)) (HasAnswer old new r s o p (Err stop)) c.in_ok-line.ensures.heard (λ a b h. taken_stops stop line old new r s o p a b h (subst (λ (x : List ℕ). HasTaken x r s (Err stop)) c.as_slice.ensures c.in_err-goes.ensures))))

pub returns-in-Some-2-clause-answer : goal.returns-in-Some-2-clause-answer
returns-in-Some-2-clause-answer g c =
    let goes = c.in-Some-2.goes in
    let line = c.in_ok-line.line in
    let old = c.lines.input in
    let new = c.hear_line.new.input in
    let r = c.lines.replica in
    let s = c.take_in.new.replica in
    let o = (g.O.Sink.told c.lines.out).written in
    let p = (g.O.Sink.told c.hear_line.new.out).written in
    let u = (g.L.Link.told c.lines.link).wire in
    let v = (g.L.Link.told c.hear_line.new.link).wire in
    let taken = subst (λ (x : List ℕ). HasTaken x r s (Ok (Some goes))) c.as_slice.ensures (rw c.in-Some-2.is at c.in_ok-goes.ensures) in
    c.lines.invariant.going new s p (Ok goes) v
    (across_weaker u v (HasHeard old new o p (Ok line)) (HasAnswer old new r s o p (Ok goes)) c.in_ok-line.ensures.heard (λ a b h. answered_now goes line old new r s o p a b h taken.0 taken.1))

pub lines-preserved : goal.lines-preserved
lines-preserved g c =
    let e = c.in_ok-line.ensures in
    let i = c.lines.invariant in
    let line = c.in_ok-line.line in
    let old = c.lines.input in
    let mid = c.hear_line.new.input in
    let r = c.lines.replica in
    let s = c.take_in.new.replica in
    let o = (g.O.Sink.told c.lines.out).written in
    let p = (g.O.Sink.told c.hear_line.new.out).written in
    let u = (g.L.Link.told c.lines.link).wire in
    let v = (g.L.Link.told c.hear_line.new.link).wire in
    let taken = subst (λ (x : List ℕ). HasTaken x r s (Ok None)) c.as_slice.ensures (rw c.in-None-2.is at c.in_ok-goes.ensures) in
    record {
      going = λ new t q res last a. i.going new t q res last
          (across_then u v last (HasHeard old mid o p (Ok line)) (HasAnswer mid new s t p q res) (HasAnswer old new r t o q res) e.heard a
          (λ x y z h b. answer_before line taken.0 old mid new r s t o p q res x y z h taken.1 taken.2 taken.3 b));
      reads = e.cause.0 ∙ i.reads;
      writes = e.cause.1 ∙ i.writes;
      faults = e.out_cause ∙ i.faults;
    }
