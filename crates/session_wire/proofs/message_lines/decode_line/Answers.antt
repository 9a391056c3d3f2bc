use Rattle.session_wire.specs.Messages.{message_text, IsMessage}
use Rattle.session_wire.proofs.ReadingLaws.{only_thing, only_place}
use Rattle.session_wire.proofs.MessageTexts.{one_message}
use Rattle.session_wire.proofs.message_lines.decode_line.Goals as goal

pub returns-clause-only : goal.returns-clause-only
returns-clause-only c = only_thing IsMessage message_text one_message c.args.line.now c.decode_message.result c.decode_message.ensures.ok c.decode_message.ensures.err

pub returns-clause-first : goal.returns-clause-first
returns-clause-first c = only_place IsMessage message_text c.args.line.now c.decode_message.result c.decode_message.ensures.ok c.decode_message.ensures.err
