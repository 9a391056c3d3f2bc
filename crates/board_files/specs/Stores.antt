-- Why the session file was not made.
use Rattle.std.specs.Prelude.{◌≡◌}
use Rattle.layout_io.specs.Causes.{Rose}
use Rattle.layout_io.specs.Told.{Told, FilesTold}
use Rattle.whole_files.specs.Outside.{SameFiles}
use Rattle.whole_files.specs.declared.stop.Stop.{Stop}
use Rattle.whole_files.specs.declared.stop.Stop.TheVariants as stops

-- why the session file was not made: no file changed
abbrev pub MakeStop : FilesTold → FilesTold → Stop → Type 0
MakeStop f g stops.Write = Told f.disk g.disk SameFiles × Rose f.write_faults g.write_faults
MakeStop f g stops.Memory = Told f.disk g.disk SameFiles × (g.write_faults ≡ f.write_faults)
MakeStop f g _ = ⊥
