-- The text of the last board, as far as it is stored.
use Rattle.std.proofs.Common.{◌≡◌, ℕ, List, [], take, Option, Some, sym, ap, subst, ◌∙◌}
use Rattle.layout_io.specs.Causes.{Rose}
use Rattle.layout_io.specs.Told.{Disk, Told, FilesTold, bytes_of}
use Rattle.whole_files.specs.Outside.{OnlyWrites, WroteFile}
use Rattle.whole_files.proofs.Tolds.{told_then}
use Rattle.session_server.specs.Rows.{HasFile, AsksBoth, IsStored}
use Rattle.session_server.specs.Stages.{IsEmptyFile, StoreEnd}
use Rattle.session_server.specs.declared.ends.End.{End}
use Rattle.session_server.specs.declared.ends.End.TheVariants as ends

-- ---- in the session file

stored_disk : (session bytes : List ℕ) (file : ℕ) (d e f : Disk) → IsEmptyFile session file d e → WroteFile file bytes e f → HasFile session bytes d f
stored_disk session bytes file d e f made given =
    let empty : bytes_of e.files (e.target file) ≡ Some [] = ap (bytes_of e.files) made.target ∙ made.empty in (
      ap (bytes_of f.files) (sym made.target) ∙ given.grown [] empty,
      λ other ne. given.others other (λ is. ne (is ∙ made.target)) ∙ made.others other ne,
    )

holds : (session bytes : List ℕ) (file : ℕ) (a b c : Option Disk) → Told a b (IsEmptyFile session file) → Told b c (WroteFile file bytes) → Told a c (HasFile session bytes)
holds session bytes file a b c made wrote = told_then a b c (IsEmptyFile session file) (WroteFile file bytes) (HasFile session bytes) made wrote (stored_disk session bytes file)

pub stored : (end : End) (session text : List ℕ) (file : ℕ) (f g h : FilesTold) → Told f.disk g.disk (IsEmptyFile session file) → g.write_faults ≡ f.write_faults → StoreEnd file text g h end → IsStored session text f h end
stored ends.Done session text file f g h made writes s = (holds session text file f.disk g.disk h.disk made s.0, s.1 ∙ writes)
stored ends.Write session text file f g h made writes s = (s.0.m, s.0.less, holds session (take s.0.m text) file f.disk g.disk h.disk made s.0.wrote, subst (λ (k : ℕ). Rose k h.write_faults) writes s.1)
stored ends.Memory session text file f g h made writes s = (s.0.0, holds session (take s.0.0 text) file f.disk g.disk h.disk made s.0.1, s.1 ∙ writes)
stored ends.Usage session text file f g h made writes s = absurd s
stored (ends.Design kind at) session text file f g h made writes s = absurd s
stored ends.Read session text file f g h made writes s = absurd s
stored (ends.Unclean a b) session text file f g h made writes s = absurd s
stored ends.Door session text file f g h made writes s = absurd s

pub only_written : (end : End) (file : ℕ) (text : List ℕ) (f g : FilesTold) → StoreEnd file text f g end → OnlyWrites f g
only_written ends.Done file text f g s = s.2
only_written ends.Write file text f g s = s.2
only_written ends.Memory file text f g s = s.2
only_written ends.Usage file text f g s = absurd s
only_written (ends.Design kind at) file text f g s = absurd s
only_written ends.Read file text f g s = absurd s
only_written (ends.Unclean a b) file text f g s = absurd s
only_written ends.Door file text f g s = absurd s

pub asks_written : (design session : List ℕ) (f g h : FilesTold) → AsksBoth design session f g → OnlyWrites g h → AsksBoth design session f h
asks_written design session f g h asks only = record { asked = (asks.asked.0, only.asked ∙ asks.asked.1); reads = only.reads ∙ asks.reads }
