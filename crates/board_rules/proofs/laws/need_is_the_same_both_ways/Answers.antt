use Rattle.board_rules.proofs.BothWays.{need_turned}
use Rattle.board_rules.proofs.laws.need_is_the_same_both_ways.Goals as goal

pub returns : goal.returns
returns c = need_turned
