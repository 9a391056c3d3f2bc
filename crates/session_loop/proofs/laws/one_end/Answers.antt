use Rattle.session_loop.proofs.OneEnd.{one_end}
use Rattle.session_loop.proofs.laws.one_end.Goals as goal

pub returns : goal.returns
returns c = one_end
