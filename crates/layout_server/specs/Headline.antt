-- What `replay` leaves at its end, and what at each stop.
use Rattle.std.specs.Prelude.{◌≡◌, ◌⊎◌, ◌<◌, ℕ, List, [], length, take, Some, IfSome}
use Rattle.layout_io.specs.Causes.{Rose}
use Rattle.layout_io.specs.Told.{Disk, Told, SinkTold, FilesTold, SameBut, bytes_of}
use Rattle.board_rules.specs.declared.design.Design.{Design}
use Rattle.session_wire.specs.declared.steps.ScriptStep.{ScriptStep}
use Rattle.layout_server.specs.Words.{Names, three}
use Rattle.whole_files.specs.Words.{Asked}
use Rattle.whole_files.specs.Outside.{SameFiles}
use Rattle.whole_files.specs.Puts.{IsPut, IsCut, MetFault, MetShortage}
use Rattle.script_replay.specs.Replays.{IsRunOf}
use Rattle.layout_server.specs.Inputs.{HasInputs}
use Rattle.layout_server.specs.Loads.{LoadStop}
use Rattle.whole_files.specs.declared.stop.Stop.{Stop}
use Rattle.whole_files.specs.declared.stop.Stop.TheVariants as stops

-- the file under the name has these bytes, and other files stayed
abbrev pub HasSession : List ℕ → List ℕ → Disk → Disk → Type 0
HasSession name bytes old new = (bytes_of new.files name ≡ Some bytes) × SameBut name old.files new.files

-- the inputs under the names, and the output and session text of the steps for the design
pub record HasRun (names : Names) (f : FilesTold) : Type 0 where
  pub design : Design
  pub steps : List ScriptStep
  pub output : List ℕ
  pub session : List ℕ
  pub run : IsRunOf design steps output session
  pub inputs : IfSome f.disk (HasInputs names design steps)

-- the three names were asked for, and no count of reads rose
pub record AsksAll (names : Names) (f g : FilesTold) : Type 0 where
  pub asked : Asked (three names) f.asked g.asked
  pub reads : g.read_faults ≡ f.read_faults

-- the output and the session file are those of the script's steps for the design, and no count rose
pub record Replays (names : Names) (f g : FilesTold) (o p : SinkTold) : Type 0 where
  pub has : HasRun names f
  pub out : IsPut has.output o p
  pub file : Told f.disk g.disk (HasSession names.session has.session)
  pub writes : g.write_faults ≡ f.write_faults
  pub asks : AsksAll names f g

-- no file changed, and nothing was written
pub record Untouched (f g : FilesTold) (o p : SinkTold) : Type 0 where
  pub files : Told f.disk g.disk SameFiles
  pub out : p ≡ o

-- nothing was written but that the session file was made; it is empty
pub record OnlyMade (name : List ℕ) (f g : FilesTold) (o p : SinkTold) : Type 0 where
  pub file : Told f.disk g.disk (HasSession name [])
  pub out : p ≡ o

-- the output is cut, and the session file is empty
pub record CutOutput (name output : List ℕ) (f g : FilesTold) (o p : SinkTold) : Type 0 where
  pub out : IsCut output o p
  pub file : Told f.disk g.disk (HasSession name [])

-- a front of the text is in the session file, and not the whole
abbrev pub HasFront : List ℕ → List ℕ → ℕ → Disk → Disk → Type 0
HasFront name session m old new = HasSession name (take m session) old new

-- the output is whole, and the session file is cut
pub record CutSession (name output session : List ℕ) (f g : FilesTold) (o p : SinkTold) : Type 0 where
  pub out : IsPut output o p
  pub m : ℕ
  pub less : m < length session
  pub file : Told f.disk g.disk (HasFront name session m)

-- the inputs have their readings
abbrev pub AreInputs : Names → FilesTold → Type 0
AreInputs names f = (d : Design) × (steps : List ScriptStep) × IfSome f.disk (HasInputs names d steps)

-- a create failed, with nothing written; a write of the output; or one of the session file, behind the whole output
abbrev pub HasFailedWrite : Names → FilesTold → FilesTold → SinkTold → SinkTold → Type 0
HasFailedWrite names f g o p =
    (AreInputs names f × Untouched f g o p × Rose f.write_faults g.write_faults)
    ⊎ (((r : HasRun names f) × CutOutput names.session r.output f g o p × MetFault o p × (g.write_faults ≡ f.write_faults))
    ⊎ ((r : HasRun names f) × CutSession names.session r.output r.session f g o p × Rose f.write_faults g.write_faults))

-- memory ran out: with nothing written, behind the making of the session file, in the output, or in the session file
abbrev pub HasShortWrite : Names → FilesTold → FilesTold → SinkTold → SinkTold → Type 0
HasShortWrite names f g o p =
    Untouched f g o p
    ⊎ (OnlyMade names.session f g o p
    ⊎ (((r : HasRun names f) × CutOutput names.session r.output f g o p × MetShortage o p) ⊎ ((r : HasRun names f) × CutSession names.session r.output r.session f g o p)))

-- why `replay` stops, and what it leaves written before the stop's line
abbrev pub ReplayStop : Names → FilesTold → FilesTold → SinkTold → SinkTold → Stop → Type 0
ReplayStop names f g o p stops.Write = AsksAll names f g × HasFailedWrite names f g o p
ReplayStop names f g o p stops.Memory = AsksAll names f g × (g.write_faults ≡ f.write_faults) × HasShortWrite names f g o p
ReplayStop names f g o p stop = LoadStop names.design names.script f g stop × (p ≡ o)
