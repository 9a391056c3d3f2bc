use Rattle.std.proofs.Common.{rules}
use Rattle.turn_lock.proofs.Claiming.{claims}
use Rattle.turn_lock.proofs.steps.claim.Goals as goal

pub compare_exchange-requires : goal.compare_exchange-requires
compare_exchange-requires g c = (
  search rules,
  search rules,
  claims g.T.Kept.calls g.T.Kept.fixed _ g.T.Kept.caller _ _ _ g.N.Says.says c.requires.live c.requires.idle c.requires.says,
)
