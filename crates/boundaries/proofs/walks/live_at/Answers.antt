use Rattle.boundaries.proofs.Walked.{found_at, found_only}
use Rattle.boundaries.proofs.walks.live_at.Goals as goal

pub returns-clause-some : goal.returns-clause-some
returns-clause-some c = found_at c.args.live.now c.in_ok-i.i c.args.number c.index-live-i.result c.in_ok-i.ensures.some.0 c.in_ok-i.ensures.some.1 c.index-live-i.is

pub returns-clause-only : goal.returns-clause-only
returns-clause-only c = found_only 1 c.args.live.now c.in_ok-i.i c.args.number c.index-live-i.result c.in_ok-i.ensures.some.0 c.requires c.in_ok-i.ensures.some.1 c.index-live-i.is
