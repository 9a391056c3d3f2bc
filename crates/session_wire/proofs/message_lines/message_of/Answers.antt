use Rattle.std.proofs.Common.{refl}
use Rattle.session_wire.proofs.ReadingLaws.{stopped}
use Rattle.session_wire.proofs.MessageTexts.{stops_in_bye, same_line_stops, same_line_reads}
use Rattle.session_wire.proofs.message_lines.message_of.Goals as goal

pub returns-then-is_word-clause-err : goal.returns-then-is_word-clause-err
returns-then-is_word-clause-err c =
    stopped c.bye_at.result c.bye_at.ensures.err (λ left. stops_in_bye c.args.line.now c.split_word.result.0.now c.split_word.result.1.now left c.split_word.ensures.parts (c.if-is_word.ensures.0 refl))

pub returns-clause-ok : goal.returns-clause-ok
returns-clause-ok c = same_line_reads c.split_word.ensures.parts c.ask_at.result c.ask_at.ensures.ok

pub returns-clause-err : goal.returns-clause-err
returns-clause-err c = same_line_stops c.split_word.ensures.parts c.ask_at.result c.ask_at.ensures.err
