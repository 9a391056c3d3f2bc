use Rattle.std.proofs.Common.{arith}
use Rattle.boundaries.proofs.Marks.{get_marked}
use Rattle.boundaries.proofs.clients.ClientSet.contains.Goals as goal

pub returns : goal.returns
returns c = rw (← c.self.view_is) (get_marked 0 c.args.client c.args.client c.self.inside.marks (omega arith))
