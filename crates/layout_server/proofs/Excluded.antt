-- Readings of a file that exclude one another.
use Rattle.std.proofs.Common.{◌≡◌, ℕ, List, Option, Some, None, subst}
use Rattle.std.specs.Prelude.{IfSome}
use Rattle.layout_io.specs.Told.{Disk, bytes_of}
use Rattle.board_rules.specs.declared.design.Design.{Design}
use Rattle.session_wire.specs.declared.steps.ScriptStep.{ScriptStep}
use Rattle.layout_server.specs.Words.{Names}
use Rattle.script_replay.specs.Scripts.{IsScript}
use Rattle.board_files.specs.Inputs.{HasClean, HasToldClean}
use Rattle.board_files.proofs.Excluded.{same_found}
use Rattle.layout_server.specs.Inputs.{HasSteps, HasBadLine, HasToldInputs}
use Rattle.script_replay.proofs.Steps.{not_bad}

no_bad_line : (name : List ℕ) (steps : List ScriptStep) (k : ℕ) (disk : Disk) → HasSteps name steps disk → HasBadLine name k disk → ⊥
no_bad_line name steps k disk has bad = not_bad bad.0 steps k (subst (λ (b : List ℕ). IsScript b steps) (same_found (bytes_of disk.files name) has.0 bad.0 has.1 bad.1) has.2) bad.2

pub clean_told : (names : Names) (d : Design) (steps : List ScriptStep) (a : Option Disk) → HasToldInputs names d steps a → HasToldClean names.design d a
clean_told names d steps None has = absurd has
clean_told names d steps (Some disk) has = has.0

pub told_bad : (names : Names) (d e : Design) (steps : List ScriptStep) (k : ℕ) (a : Option Disk) → HasToldInputs names d steps a → IfSome a (λ disk. HasClean names.design e disk × HasBadLine names.script k disk) → ⊥
told_bad names d e steps k None has bad = absurd has
told_bad names d e steps k (Some disk) has bad = no_bad_line names.script steps k disk has.1 bad.1
