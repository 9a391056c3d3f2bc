use Rattle.std.proofs.Common.{◌≡◌, ◌++◌, drop}
use Rattle.std.specs.List.{flat_map}
use Rattle.session_wire.specs.Lines.{entry_line}
use Rattle.client_feed.proofs.feeds.feed_since.Given as goal

abbrev pub invariant-loop-entry : goal.invariant-loop-entry
invariant-loop-entry l = l.out ++ flat_map entry_line (drop l.entry-index l.entries) ≡ l.initial.out ++ flat_map entry_line l.entries
