-- The angles that words state.
-- Models: the rotations of the SPECCTRA reference, in degrees. Left out: angles that are no multiple of 45 degrees.
use Rattle.std.specs.Prelude.{◌≡◌, ℕ, List, Result, Ok, Err}
use Rattle.sexp_text.specs.NumberTexts.{Number, IsNumber, IsNumberText, spelling}
use Rattle.sexp_text.specs.Angles.{IsAngle}
use Rattle.sexp_text.specs.declared.angle_fault.AngleFault.{AngleFault}
use Rattle.sexp_text.specs.declared.angle_fault.AngleFault.TheVariants.{NotAngle}
use Rattle.dsn_lists.specs.declared.faults.DesignFault.{DesignFault}
use Rattle.dsn_lists.specs.declared.faults.DesignKind.{DesignKind}
use Rattle.dsn_lists.specs.declared.faults.DesignKind.TheVariants as kind

-- the text spells a number that is this angle, in eighths of a turn, or no angle
abbrev pub HasAngle : List ℕ → Result ℕ AngleFault → Type 0
HasAngle text r = (n : Number) × IsNumber n × (text ≡ spelling n) × IsAngle n r

-- the text states an angle
abbrev pub StatesAngle : List ℕ → Type 0
StatesAngle text = (e : ℕ) × HasAngle text (Ok e)

-- why a text states no angle: it is no number, or its value is no multiple of 45 or too large
abbrev pub NoAngle : List ℕ → DesignKind → Type 0
NoAngle text kind.Number = IsNumberText text → ⊥
NoAngle text kind.Angle = HasAngle text (Err NotAngle)
NoAngle text _ = ⊥

-- the fault of a word at this byte that is to state an angle
abbrev pub AngleWordFault : ℕ → List ℕ → DesignFault → Type 0
AngleWordFault at text e = NoAngle text e.kind × (e.at ≡ at)
