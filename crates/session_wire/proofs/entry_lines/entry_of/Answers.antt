use Rattle.std.proofs.Common.{refl}
use Rattle.session_wire.proofs.Stops.{not_true}
use Rattle.session_wire.proofs.ReadingLaws.{stopped}
use Rattle.session_wire.proofs.EntryTexts.{bad_entry, stops_in_entry}
use Rattle.session_wire.proofs.entry_lines.entry_of.Goals as goal

pub returns-then-is_word-clause-err : goal.returns-then-is_word-clause-err
returns-then-is_word-clause-err c =
    stopped c.entry_at.result c.entry_at.ensures.err (λ left. stops_in_entry c.args.line.now c.split_word.result.0.now c.split_word.result.1.now left c.split_word.ensures.parts (c.if-is_word.ensures.0 refl))

pub returns-clause-err : goal.returns-clause-err
returns-clause-err c =
    bad_entry c.args.line.now c.split_word.result.0.now c.split_word.result.1.now c.split_word.ensures.parts c.split_word.ensures.word c.split_word.ensures.ends (λ e. not_true (c.if-is_word.ensures.1 e))
