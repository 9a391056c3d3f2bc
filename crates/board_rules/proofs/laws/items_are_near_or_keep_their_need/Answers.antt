use Rattle.board_rules.proofs.NearItems.{near_or_keeps}
use Rattle.board_rules.proofs.laws.items_are_near_or_keep_their_need.Goals as goal

pub returns : goal.returns
returns c = near_or_keeps
