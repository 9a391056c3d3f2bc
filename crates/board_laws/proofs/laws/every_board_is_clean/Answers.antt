use Rattle.board_laws.proofs.Cleanness.{boards_clean}
use Rattle.board_laws.proofs.laws.every_board_is_clean.Goals as goal

pub returns : goal.returns
returns c = boards_clean
