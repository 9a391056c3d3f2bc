use Rattle.std.proofs.Common.{rules}
use Rattle.turn_lock.proofs.Turning.{yields_filled}
use Rattle.turn_lock.proofs.steps.put_value.Goals as goal

pub swap-requires : goal.swap-requires
swap-requires g c = (
  search rules,
  search rules,
  yields_filled g.T.Kept.calls g.T.Kept.fixed _ g.T.Kept.caller _ _ c.args.token.now.me _ c.args.value c.requires.live c.requires.turn c.requires.slot (search rules) c.requires.counted c.requires.fixed,
)
