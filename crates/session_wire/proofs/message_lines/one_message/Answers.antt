use Rattle.session_wire.proofs.MessageTexts.{one_message}
use Rattle.session_wire.proofs.message_lines.one_message.Goals as goal

pub returns : goal.returns
returns c = one_message
