use Rattle.std.proofs.Common.{◌≡◌, length}
use Rattle.whole_files.proofs.Files.{Gave}
use Rattle.whole_files.proofs.outside.put_file.Given as goal

abbrev pub invariant-loop-rest : goal.invariant-loop-rest
invariant-loop-rest g l = record {
  gave : Gave l.file l.text l.rest (g.F.Files.told l.initial.files).disk (g.F.Files.told l.files).disk;
  writes : g.F.Files.writes l.files l.file;
  asked : (g.F.Files.told l.files).asked ≡ (g.F.Files.told l.initial.files).asked;
  read_faults : (g.F.Files.told l.files).read_faults ≡ (g.F.Files.told l.initial.files).read_faults;
  write_faults : (g.F.Files.told l.files).write_faults ≡ (g.F.Files.told l.initial.files).write_faults;
}

abbrev pub decreases-loop-rest : goal.decreases-loop-rest
decreases-loop-rest g l = length l.rest
