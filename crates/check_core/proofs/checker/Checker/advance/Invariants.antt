use Rattle.std.proofs.Common.{◌≡◌, ◌+◌, ◌<◌, ◌^◌, ℕ, List, drop}
use Rattle.board_items.specs.declared.history.Entry.{Entry}
use Rattle.board_core.specs.Boards.{IsSameBoard, board_at}
use Rattle.check_core.specs.Checking.{IsChecking, AreFitEntries, StandAt, taken_in}
use Rattle.check_core.proofs.checker.Checker.advance.Given as goal

-- The entries so far are taken, and there is room for the numbers of the others.
abbrev pub invariant-loop-entry : goal.invariant-loop-entry
invariant-loop-entry g l = record {
  checking : IsChecking l.design.parts l.self;
  next : l.self.board.next_id + taken_in (drop l.entry-index l.entries) < 2 ^ 32;
  counted : l.self.board.count ≡ l.initial.self.board.count + l.entry-index;
  fit : AreFitEntries l.design.parts (drop l.entry-index l.entries);
  follows : (journal : List Entry) (k : ℕ) → StandAt journal k l.entries → IsSameBoard l.initial.self.board (board_at l.design.parts journal k) → IsSameBoard l.self.board (board_at l.design.parts journal (k + l.entry-index));
}
