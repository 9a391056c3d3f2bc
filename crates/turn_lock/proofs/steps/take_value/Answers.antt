use Rattle.std.proofs.Common.{rules, Some}
use Rattle.turn_lock.proofs.Turning.{carries_slot}
use Rattle.turn_lock.proofs.steps.take_value.Goals as goal

pub exchange-requires : goal.exchange-requires
exchange-requires g c = let claimed = c.claim_at_last.ensures.claimed in
    (search rules, (Some claimed.value, carries_slot g.T.Kept.calls g.T.Kept.fixed c.args.steps.now.key.value g.T.Kept.caller c.claim_at_last.new.token.me (Some claimed.value) claimed.carries))
