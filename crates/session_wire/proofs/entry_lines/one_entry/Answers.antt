use Rattle.session_wire.proofs.EntryTexts.{one_entry}
use Rattle.session_wire.proofs.entry_lines.one_entry.Goals as goal

pub returns : goal.returns
returns c = one_entry
