use Rattle.std.proofs.Common.{◌≡◌, ◌++◌, drop}
use Rattle.std.specs.List.{flat_map}
use Rattle.session_wire.specs.Lines.{entry_line}
use Rattle.script_replay.proofs.texts.put_entries.Given as goal

abbrev pub invariant-loop-entry : goal.invariant-loop-entry
invariant-loop-entry l = l.out ++ flat_map entry_line (drop l.entry-index l.journal) ≡ l.initial.out ++ flat_map entry_line l.journal
