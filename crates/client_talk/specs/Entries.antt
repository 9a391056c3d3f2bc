-- The lines that spell entries.
use Rattle.std.specs.Prelude.{ℕ, List}
use Rattle.board_items.specs.declared.history.Entry.{Entry}
use Rattle.session_wire.specs.Lines.{entry_text}
use Rattle.session_wire.specs.EntryLines.{IsEntry}
use Rattle.session_wire.specs.Readings.{Reads}

-- the line spells the entry
abbrev pub ReadsEntry : List ℕ → Entry → Type 0
ReadsEntry = Reads IsEntry entry_text
