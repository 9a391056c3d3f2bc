use Rattle.session_wire.specs.Lines.{entry_text}
use Rattle.session_wire.specs.EntryLines.{IsEntry}
use Rattle.session_wire.proofs.ReadingLaws.{only_thing, only_place}
use Rattle.session_wire.proofs.EntryTexts.{one_entry}
use Rattle.session_wire.proofs.entry_lines.decode_entry.Goals as goal

pub returns-clause-only : goal.returns-clause-only
returns-clause-only c = only_thing IsEntry entry_text one_entry c.args.line.now c.entry_or_place.result c.entry_or_place.ensures.ok c.entry_or_place.ensures.err

pub returns-clause-first : goal.returns-clause-first
returns-clause-first c = only_place IsEntry entry_text c.args.line.now c.entry_or_place.result c.entry_or_place.ensures.ok c.entry_or_place.ensures.err
