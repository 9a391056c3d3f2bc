-- Why the design or the script was not loaded, and what is known of what was.
use Rattle.std.specs.Prelude.{◌⊎◌, ℕ, List, [], ◌∷◌, IfSome}
use Rattle.layout_io.specs.Told.{FilesTold}
use Rattle.board_rules.specs.declared.design.Design.{Design}
use Rattle.whole_files.specs.Outside.{OnlyRead, FailedRead, ShortRead}
use Rattle.script_replay.specs.Scripts.{IsBad, AreDue}
use Rattle.board_files.specs.Inputs.{IsClean, HasClean, HasUnclean, HasFault}
use Rattle.layout_server.specs.Inputs.{HasBadLine}
use Rattle.layout_server.specs.declared.load.Loaded.{Loaded}
use Rattle.whole_files.specs.declared.stop.Stop.{Stop}
use Rattle.whole_files.specs.declared.stop.Stop.TheVariants as stops

-- why bytes give no steps
abbrev pub ScriptCause : List ℕ → Stop → Type 0
ScriptCause bytes (stops.Script k) = IsBad bytes k
ScriptCause bytes stops.Memory = Unit {0}
ScriptCause bytes _ = ⊥

-- why the script was not loaded, and what was asked for
abbrev pub ScriptStop : List ℕ → FilesTold → FilesTold → Stop → Type 0
ScriptStop name f g stops.Read = FailedRead (name ∷ []) f g
ScriptStop name f g (stops.Script k) = IfSome f.disk (HasBadLine name k) × OnlyRead (name ∷ []) f g
ScriptStop name f g stops.Memory = ShortRead (name ∷ []) f g
ScriptStop name f g _ = ⊥

-- a read failed: of the design, before the script was asked for, or of the script, behind a clean design
abbrev pub HasFailedRead : List ℕ → List ℕ → FilesTold → FilesTold → Type 0
HasFailedRead design script f g = FailedRead (design ∷ []) f g ⊎ ((d : Design) × IfSome f.disk (HasClean design d) × FailedRead (design ∷ script ∷ []) f g)

-- why the two inputs were not loaded, and what was asked for
abbrev pub LoadStop : List ℕ → List ℕ → FilesTold → FilesTold → Stop → Type 0
LoadStop design script f g (stops.Design e) = IfSome f.disk (HasFault design e) × OnlyRead (design ∷ []) f g
LoadStop design script f g stops.Read = HasFailedRead design script f g
LoadStop design script f g (stops.Script k) = ((d : Design) × IfSome f.disk (λ disk. HasClean design d disk × HasBadLine script k disk)) × OnlyRead (design ∷ script ∷ []) f g
LoadStop design script f g (stops.Unclean a b) = IfSome f.disk (HasUnclean design a.0 b.0) × OnlyRead (design ∷ []) f g
LoadStop design script f g stops.Memory = ShortRead (design ∷ script ∷ []) f g
LoadStop design script f g _ = ⊥

-- what was loaded: the steps each come from a client who hasn't left, and the design is clean
pub record IsLoaded (l : Loaded) : Type 0 where
  pub due : AreDue [] l.steps
  pub clean : IsClean l.design
