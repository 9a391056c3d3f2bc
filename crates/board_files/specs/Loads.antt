-- Why a design was not loaded.
use Rattle.std.specs.Prelude.{ℕ, List, [], ◌∷◌, IfSome}
use Rattle.layout_io.specs.Told.{FilesTold}
use Rattle.board_rules.specs.declared.design.Design.{Design}
use Rattle.dsn_reader.specs.Design.{IsFirstFault}
use Rattle.whole_files.specs.Outside.{OnlyRead, FailedRead, ShortRead}
use Rattle.board_files.specs.Inputs.{AreLeast, HasUnclean, HasFault}
use Rattle.whole_files.specs.declared.stop.Stop.{Stop}
use Rattle.whole_files.specs.declared.stop.Stop.TheVariants as stops

-- why bytes give no design
abbrev pub DesignCause : List ℕ → Stop → Type 0
DesignCause bytes (stops.Design e) = IsFirstFault bytes e
DesignCause bytes stops.Memory = Unit {0}
DesignCause bytes _ = ⊥

-- why a design isn't taken: these two loaded items are the least that are too near, or memory ran out
abbrev pub CleanCause : Design → Stop → Type 0
CleanCause d (stops.Unclean a b) = AreLeast d a.0 b.0
CleanCause d stops.Memory = Unit {0}
CleanCause d _ = ⊥

-- why a clean design was not loaded, and what was asked for
abbrev pub DesignStop : List ℕ → FilesTold → FilesTold → Stop → Type 0
DesignStop name f g (stops.Design e) = IfSome f.disk (HasFault name e) × OnlyRead (name ∷ []) f g
DesignStop name f g stops.Read = FailedRead (name ∷ []) f g
DesignStop name f g (stops.Unclean a b) = IfSome f.disk (HasUnclean name a.0 b.0) × OnlyRead (name ∷ []) f g
DesignStop name f g stops.Memory = ShortRead (name ∷ []) f g
DesignStop name f g _ = ⊥
