use Rattle.check_core.proofs.Taking.{one_left, none_left}
use Rattle.std.proofs.Common.{◌∙◌, arith}
use Rattle.check_core.proofs.following.leave_one.Goals as goal

pub returns-then-id-bound : goal.returns-then-id-bound
returns-then-id-bound g c = c.remove.ensures ∙ one_left c.args.id c.args.bound _ c.if-id-bound.true

pub returns-else-id-bound : goal.returns-else-id-bound
returns-else-id-bound g c = none_left c.args.id c.args.bound _ (let h = c.if-id-bound.false in omega (arith, h))
