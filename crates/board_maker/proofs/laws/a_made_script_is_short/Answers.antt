use Rattle.board_maker.proofs.Lengths.{text_short}
use Rattle.board_maker.proofs.laws.a_made_script_is_short.Goals as goal

pub returns : goal.returns
returns c = text_short
