use Rattle.board_laws.proofs.Shields.{journal_shielded}
use Rattle.board_laws.proofs.laws.every_journal_is_shielded.Goals as goal

pub returns : goal.returns
returns c = journal_shielded
