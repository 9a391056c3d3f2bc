use Rattle.std.proofs.Common.{◌∙◌, List, ℕ, sym, subst, Ok, Err, Result}
use Rattle.layout_io.specs.Links.{Across}
use Rattle.session_wire.specs.Kept.{ended}
use Rattle.answer_lines.specs.declared.answers.Goes.TheVariants.{On, Last}
use Rattle.client_talk.specs.declared.stop.Stop.{Stop}
use Rattle.client_talk.specs.Hears.{HasSaid, OutCause}
use Rattle.client_talk.specs.Lines.{bye, lines_of}
use Rattle.client_talk.specs.Talks.{HasTurned, HasTalked}
use Rattle.client_talk.proofs.Wires.{across_then, across_weaker, err_as}
use Rattle.client_talk.proofs.Hearing.{out_result}
use Rattle.client_talk.proofs.Talking.{talked_before, talked_last, turn_stops, said_result}
use Rattle.client_talk.proofs.talk.talk.Goals as goal

pub returns-in_err-turn-clause-talked : goal.returns-in_err-turn-clause-talked
returns-in_err-turn-clause-talked g c =
    let stop = c.in_err-turn.field-0.0 in
    let line = c.in-Some.line.now in
    let after = lines_of c.in-Some.after.now in
    let old = c.lines.input in
    let new = c.turn.new.input in
    let r = c.lines.replica in
    let s = c.turn.new.replica in
    let o = (g.O.Sink.told c.lines.out).written in
    let p = (g.O.Sink.told c.turn.new.out).written in
    let u = (g.L.Link.told c.lines.link).wire in
    let v = (g.L.Link.told c.turn.new.link).wire in
    err_as _ stop (λ (res : Result (Unit {0}) Stop). Across ((g.L.Link.told c.args.link.now).wire) v (HasTalked {T = Unit {0}} (lines_of c.args.text.now) c.args.input.now new c.args.replica.now s ((g.O.Sink.told c.args.out.now).written) p res)) c.from_residual.ensures.1
    (c.lines.invariant.going new s p (Err stop) v
    (across_weaker u v (HasTurned line old new r s o p (Err stop)) (HasTalked {T = Unit {0}} (lines_of c.lines.rest.now) old new r s o p (Err stop)) c.in_err-turn.ensures.turned
    (λ a b h. subst (λ (ls : List (List ℕ)). HasTalked {T = Unit {0}} ls old new r s o p (Err stop) a b) (sym c.in-Some.ensures.lines) (turn_stops stop line old new new after r s s o p a b h))))

pub returns-in-Last-clause-talked : goal.returns-in-Last-clause-talked
returns-in-Last-clause-talked g c =
    let line = c.in-Some.line.now in
    let after = lines_of c.in-Some.after.now in
    let old = c.lines.input in
    let new = c.turn.new.input in
    let r = c.lines.replica in
    let s = c.turn.new.replica in
    let o = (g.O.Sink.told c.lines.out).written in
    let p = (g.O.Sink.told c.turn.new.out).written in
    let u = (g.L.Link.told c.lines.link).wire in
    let v = (g.L.Link.told c.turn.new.link).wire in
    let turned = rw c.in-Last.is at c.in_ok-turn.ensures.turned in
    c.lines.invariant.going new s p (Ok (tt {0})) v
    (across_weaker u v (HasTurned line old new r s o p (Ok Last)) (HasTalked {T = Unit {0}} (lines_of c.lines.rest.now) old new r s o p (Ok (tt {0}))) turned
    (λ a b h. subst (λ (ls : List (List ℕ)). HasTalked {T = Unit {0}} ls old new r s o p (Ok (tt {0})) a b) (sym c.in-Some.ensures.lines) (talked_last (tt {0}) line old new after r s o p a b h)))

pub lines-preserved : goal.lines-preserved
lines-preserved g c =
    let e = c.in_ok-turn.ensures in
    let i = c.lines.invariant in
    let line = c.in-Some.line.now in
    let after = lines_of c.in-Some.after.now in
    let old = c.lines.input in
    let mid = c.turn.new.input in
    let r = c.lines.replica in
    let s = c.turn.new.replica in
    let o = (g.O.Sink.told c.lines.out).written in
    let p = (g.O.Sink.told c.turn.new.out).written in
    let u = (g.L.Link.told c.lines.link).wire in
    let v = (g.L.Link.told c.turn.new.link).wire in
    let turned = rw c.in-On.is at e.turned in
    record {
      going = λ new t q res last a. i.going new t q res last
          (across_then u v last (HasTurned line old mid r s o p (Ok On)) (HasTalked {T = Unit {0}} after mid new s t p q res) (HasTalked {T = Unit {0}} (lines_of c.lines.rest.now) old new r t o q res) turned a
          (λ x y z h b. subst (λ (ls : List (List ℕ)). HasTalked {T = Unit {0}} ls old new r t o q res x z) (sym c.in-Some.ensures.lines) (talked_before line old mid new after r s t o p q res x y z h b)));
      reads = e.cause.0 ∙ i.reads;
      writes = e.cause.1 ∙ i.writes;
      faults = e.out_cause ∙ i.faults;
    }

pub returns-clause-talked : goal.returns-clause-talked
returns-clause-talked g c =
    let old = c.lines.input in
    let r = c.lines.replica in
    let o = (g.O.Sink.told c.lines.out).written in
    let u = (g.L.Link.told c.lines.link).wire in
    let v = (g.L.Link.told c.say.new.link).wire in
    let res = c.say.result in
    c.lines.invariant.going old r o res v
    (across_weaker u v (HasSaid {T = Unit {0}} (ended bye) res) (HasTalked {T = Unit {0}} (lines_of c.lines.rest.now) old old r r o o res) (subst (λ (x : List ℕ). Across u v (HasSaid {T = Unit {0}} (ended x) res)) c.as_slice.ensures c.say.ensures.said)
    (λ a b h. subst (λ (ls : List (List ℕ)). HasTalked {T = Unit {0}} ls old old r r o o res a b) (sym c.in_default.ensures) (said_result old r o res a b h)))

pub returns-clause-out_cause : goal.returns-clause-out_cause
returns-clause-out_cause g c =
    let before = (g.O.Sink.told c.lines.out).faults in
    subst (λ (n : ℕ). OutCause n before c.say.result) c.lines.invariant.faults (out_result c.say.result before c.say.ensures.only)
