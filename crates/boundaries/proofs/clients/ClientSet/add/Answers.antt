use Rattle.std.proofs.Common.{arith}
use Rattle.boundaries.proofs.Marks.{set_marked}
use Rattle.boundaries.proofs.clients.ClientSet.add.Goals as goal

pub returns : goal.returns
returns c = rw (← c.self.view_is) (set_marked 0 c.args.client c.args.client c.self.inside.marks (omega arith) (omega (arith, c.ranges.client)))
