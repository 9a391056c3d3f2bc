use Rattle.board_rules.proofs.Gaps.{largest_need}
use Rattle.board_rules.proofs.laws.need_is_at_most_the_largest_clearance.Goals as goal

pub returns : goal.returns
returns c = largest_need
