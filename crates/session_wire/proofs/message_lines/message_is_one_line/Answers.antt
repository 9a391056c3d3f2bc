use Rattle.session_wire.proofs.LineFeeds.{message_is_one_line}
use Rattle.session_wire.proofs.message_lines.message_is_one_line.Goals as goal

pub returns : goal.returns
returns c = message_is_one_line
