use Rattle.session_wire.proofs.LineFeeds.{entry_is_one_line}
use Rattle.session_wire.proofs.entry_lines.entry_is_one_line.Goals as goal

pub returns : goal.returns
returns c = entry_is_one_line
