use Rattle.board_maker.proofs.Forms.{each_step}
use Rattle.board_maker.proofs.laws.each_made_step_is_formed.Goals as goal

pub returns : goal.returns
returns c = each_step
