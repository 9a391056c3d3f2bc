use Rattle.std.proofs.Common.{◌≡◌, length}
use Rattle.whole_files.proofs.Files.{Gave}
use Rattle.board_files.proofs.store.put_session.Given as goal

-- The file was given what of the text isn't left.
abbrev pub invariant-pieces : goal.invariant-pieces
invariant-pieces g l = record {
  gave : Gave l.file l.initial.session l.session (g.F.Files.told l.initial.files).disk (g.F.Files.told l.files).disk;
  writes : g.F.Files.writes l.files l.file;
  asked : (g.F.Files.told l.files).asked ≡ (g.F.Files.told l.initial.files).asked;
  read_faults : (g.F.Files.told l.files).read_faults ≡ (g.F.Files.told l.initial.files).read_faults;
  write_faults : (g.F.Files.told l.files).write_faults ≡ (g.F.Files.told l.initial.files).write_faults;
}

abbrev pub decreases-pieces : goal.decreases-pieces
decreases-pieces g l = length l.session
