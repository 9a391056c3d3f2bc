use Rattle.std.proofs.Common.{rules, ap, ◌∙◌, subst, sym}
use mathlib.Core.Option.{some}
use Rattle.turn_lock.specs.Sittings.{Lock, Sitting}
use Rattle.turn_lock.specs.Closed.{seats_of, AllJoined, AreApart, BeginsWithEach, HasCallsOfEach, NamesOnly}
use Rattle.turn_lock.proofs.Closing.{leaves, never_empty}
use Rattle.turn_lock.proofs.lock.TurnLock.close.Goals as goal

pub unreachable-requires : goal.unreachable-requires
unreachable-requires g c = never_empty g.T.Kept.calls g.T.Kept.fixed _ g.T.Kept.caller _ _ _ _ c.close_with-closed.ensures.values.2 c.seat.invariant.0 (search rules) (search rules)
    (subst AllJoined (sym c.seat.view_is) c.requires.joined) (c.take.ensures.value ∙ ap some c.in_default.is)

pub returns : goal.returns
returns g c =
    let left = leaves g.T.Kept.calls g.T.Kept.fixed _ g.T.Kept.caller _ _ _ _ c.in-Some.value c.close_with-closed.ensures.values.2 c.seat.invariant.0 (search rules) (search rules)
    (subst AllJoined (sym c.seat.view_is) c.requires.joined) (c.take.ensures.value ∙ ap some c.in-Some.is) in record {
      fixed = left.same ∙ ap (λ (l : Lock g.row.T.Denot). g.T.Kept.fixed l.first) c.self.view_is;
      begins = subst (λ (s : Sitting g.row.T-Call.Denot). BeginsWithEach (seats_of s) (g.T.Kept.calls c.in-Some.value)) c.seat.view_is left.begins;
      apart = subst (λ (s : Sitting g.row.T-Call.Denot). AreApart (seats_of s)) c.seat.view_is left.apart;
      own = subst (λ (s : Sitting g.row.T-Call.Denot). HasCallsOfEach g.T.Kept.caller (seats_of s) (g.T.Kept.calls c.in-Some.value)) c.seat.view_is left.own;
      no_other = subst (λ (s : Sitting g.row.T-Call.Denot). NamesOnly g.T.Kept.caller (seats_of s) (g.T.Kept.calls c.in-Some.value)) c.seat.view_is left.no_other;
    }
