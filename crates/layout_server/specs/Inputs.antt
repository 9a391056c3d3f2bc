-- What the design and the script under their names were found to be.
use Rattle.std.specs.Prelude.{◌≡◌, ℕ, List, Option, Some, None}
use Rattle.layout_io.specs.Told.{Disk, bytes_of}
use Rattle.board_rules.specs.declared.design.Design.{Design}
use Rattle.session_wire.specs.declared.steps.ScriptStep.{ScriptStep}
use Rattle.board_files.specs.Inputs.{HasClean}
use Rattle.layout_server.specs.Words.{Names}
use Rattle.script_replay.specs.Scripts.{IsScript, IsBad}

-- the file under the name is the lines of these steps
abbrev pub HasSteps : List ℕ → List ScriptStep → Disk → Type 0
HasSteps name steps disk = (text : List ℕ) × (bytes_of disk.files name ≡ Some text) × IsScript text steps

-- the file under the name is no script, and this is its first bad line
abbrev pub HasBadLine : List ℕ → ℕ → Disk → Type 0
HasBadLine name k disk = (text : List ℕ) × (bytes_of disk.files name ≡ Some text) × IsBad text k

-- both files have their readings, and the design is clean
abbrev pub HasInputs : Names → Design → List ScriptStep → Disk → Type 0
HasInputs names d steps disk = HasClean names.design d disk × HasSteps names.script steps disk

-- the files are told, and both inputs have these readings
abbrev pub HasToldInputs : Names → Design → List ScriptStep → Option Disk → Type 0
HasToldInputs names d steps None = ⊥
HasToldInputs names d steps (Some disk) = HasInputs names d steps disk
