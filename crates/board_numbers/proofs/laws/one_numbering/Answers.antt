use Rattle.board_numbers.proofs.Unique.{one_numbering}
use Rattle.board_numbers.proofs.laws.one_numbering.Goals as goal

pub returns : goal.returns
returns c = one_numbering
