use Rattle.std.proofs.Common.{[], List, ℕ, Ok, Err, Result, subst}
use Rattle.layout_io.specs.Links.{Across}
use Rattle.client_talk.specs.declared.stop.Stop.{Stop}
use Rattle.client_talk.specs.Lines.{lines_of}
use Rattle.client_talk.specs.Talks.{HasGreeted, HasTalked, HasConversed}
use Rattle.client_talk.proofs.Wires.{across_then, across_weaker, err_as}
use Rattle.client_talk.proofs.Conversing.{greeted_stops, talk_stops, board_result}
use Rattle.client_talk.proofs.whole.converse.Goals as goal

pub returns-in_err-greeted-clause-conversed : goal.returns-in_err-greeted-clause-conversed
returns-in_err-greeted-clause-conversed g c =
    let stop = c.in_err-greeted.field-0.0 in
    let lines = lines_of c.args.text.now in
    let new = c.greeted.new.input in
    let r = c.args.replica.now in
    let o = (g.O.Sink.told c.args.out.now).written in
    let p = (g.O.Sink.told c.greeted.new.out).written in
    let u = (g.L.Link.told c.args.link.now).wire in
    let v = (g.L.Link.told c.greeted.new.link).wire in
    err_as _ stop (λ (res : Result (Unit {0}) Stop). Across u v (HasConversed {T = Unit {0}} lines r r o p res)) c.from_residual.ensures.1
    (across_weaker u v (HasGreeted {T = Unit {0}} [] new o p (Err stop)) (HasConversed {T = Unit {0}} lines r r o p (Err stop)) (subst (λ (i : List ℕ). Across u v (HasGreeted {T = Unit {0}} i new o p (Err stop))) c.new-input.ensures c.in_err-greeted.ensures.greeted)
    (λ a b h. greeted_stops stop lines new r r o p a b h))

pub returns-in_err-talk-clause-conversed : goal.returns-in_err-talk-clause-conversed
returns-in_err-talk-clause-conversed g c =
    let stop = c.in_err-talk.field-0.0 in
    let lines = lines_of c.args.text.now in
    let mid = c.greeted.new.input in
    let new = c.talk.new.input in
    let r = c.args.replica.now in
    let s = c.talk.new.replica in
    let o = (g.O.Sink.told c.args.out.now).written in
    let p = (g.O.Sink.told c.greeted.new.out).written in
    let q = (g.O.Sink.told c.talk.new.out).written in
    let u = (g.L.Link.told c.args.link.now).wire in
    let v = (g.L.Link.told c.greeted.new.link).wire in
    let w = (g.L.Link.told c.talk.new.link).wire in
    let x = c.in_ok-greeted.field-0 in
    let first = subst (λ (i : List ℕ). Across u v (HasGreeted {T = Unit {0}} i mid o p (Ok x))) c.new-input.ensures c.in_ok-greeted.ensures.greeted in
    err_as _ stop (λ (res : Result (Unit {0}) Stop). Across u w (HasConversed {T = Unit {0}} lines r s o q res)) c.from_residual-in_err-talk.ensures.1
    (across_then u v w (HasGreeted {T = Unit {0}} [] mid o p (Ok x)) (HasTalked {T = Unit {0}} lines mid new r s p q (Err stop)) (HasConversed {T = Unit {0}} lines r s o q (Err stop)) first c.in_err-talk.ensures.talked
    (λ a b d h k. talk_stops x stop lines mid new r s s o p q a b d h k))

pub returns-clause-conversed : goal.returns-clause-conversed
returns-clause-conversed g c =
    let lines = lines_of c.args.text.now in
    let mid = c.greeted.new.input in
    let new = c.talk.new.input in
    let r = c.args.replica.now in
    let s = c.talk.new.replica in
    let o = (g.O.Sink.told c.args.out.now).written in
    let p = (g.O.Sink.told c.greeted.new.out).written in
    let q = (g.O.Sink.told c.talk.new.out).written in
    let q' = (g.O.Sink.told c.print_board.new.out).written in
    let u = (g.L.Link.told c.args.link.now).wire in
    let v = (g.L.Link.told c.greeted.new.link).wire in
    let w = (g.L.Link.told c.talk.new.link).wire in
    let x = c.in_ok-greeted.field-0 in
    let y = c.in_ok-talk.field-0 in
    let res = c.print_board.result in
    let first = subst (λ (i : List ℕ). Across u v (HasGreeted {T = Unit {0}} i mid o p (Ok x))) c.new-input.ensures c.in_ok-greeted.ensures.greeted in
    across_then u v w (HasGreeted {T = Unit {0}} [] mid o p (Ok x)) (HasTalked {T = Unit {0}} lines mid new r s p q (Ok y)) (HasConversed {T = Unit {0}} lines r s o q' res) first c.in_ok-talk.ensures.talked
    (λ a b d h k. board_result x y res lines mid new r s o p q q' a b d h k c.print_board.ensures.printed)
