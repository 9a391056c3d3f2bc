use Rattle.std.proofs.Common.{◌≡◌, ◌+◌, ◌-◌, length}
use Rattle.layout_io.specs.Told.{Told}
use Rattle.whole_files.specs.Outside.{ReadRest}
use Rattle.whole_files.proofs.outside.read_rest.Given as goal

abbrev pub invariant-loop-files : goal.invariant-loop-files
invariant-loop-files g l = record {
  told : Told (g.F.Files.told l.initial.files).disk (g.F.Files.told l.files).disk (ReadRest l.file l.bytes);
  reads : g.F.Files.reads l.files l.file;
  asked : (g.F.Files.told l.files).asked ≡ (g.F.Files.told l.initial.files).asked;
  read_faults : (g.F.Files.told l.files).read_faults ≡ (g.F.Files.told l.initial.files).read_faults;
  write_faults : (g.F.Files.told l.files).write_faults ≡ (g.F.Files.told l.initial.files).write_faults;
}

abbrev pub decreases-loop-files : goal.decreases-loop-files
decreases-loop-files g l = l.most + 1 - length l.bytes
