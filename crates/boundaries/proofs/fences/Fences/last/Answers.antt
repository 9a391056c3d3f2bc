use Rattle.boundaries.proofs.Kept.{numbers_within}
use Rattle.boundaries.proofs.fences.Fences.last.Goals as goal

pub returns-clause-within : goal.returns-clause-within
returns-clause-within c = rw (← c.self.view_is) (λ n b h. numbers_within c.self.inside.live.items c.self.inside.last n b c.self.invariant.0 h)
