-- The angle that a number text stands for, in eighths of a turn.
-- Models: the rotation of the SPECCTRA reference, in degrees. Left out: angles that are no multiple of 45 degrees.
use Rattle.std.specs.Prelude.{◌≡◌, ℕ, ◌+◌, ◌-◌, ◌*◌, ◌^◌, ◌<◌, ◌≤◌, List, Result, Ok, Err, ⊤}
use Rattle.sexp_text.specs.declared.angle_fault.AngleFault.{AngleFault}
use Rattle.sexp_text.specs.declared.angle_fault.AngleFault.TheVariants.{NotNumber, NotAngle}
use Rattle.sexp_text.specs.declared.number.Sign.{Sign}
use Rattle.sexp_text.specs.declared.number.Sign.TheVariants.{Bare, Plus, Minus}
use Rattle.sexp_text.specs.declared.number.Decimal.{Decimal}
use Rattle.sexp_text.specs.NumberTexts.{Number, IsNumberText, decimal_of}

-- the size of the decimal is k times the unit
abbrev pub IsTimes : Decimal → ℕ → ℕ → Type 0
IsTimes d unit k = d.digits * 10 ^ (d.right - d.left) ≡ unit * k * 10 ^ (d.left - d.right)

-- k eighths with the sign lead to the same place as e, but for whole turns
abbrev pub IsTurn : Sign → ℕ → ℕ → Type 0
IsTurn Bare k e = (turns : ℕ) × (k ≡ e + 8 * turns)
IsTurn Plus k e = (turns : ℕ) × (k ≡ e + 8 * turns)
IsTurn Minus k e = (turns : ℕ) × (e + k ≡ 8 * turns)

-- the answer for a number: its eighths, 0 to 7, or `NotAngle` exactly where it is no multiple of 45 up to 80 times 45
abbrev pub IsAngle : Number → Result ℕ AngleFault → Type 0
IsAngle n (Ok e) = (k : ℕ) × IsTimes (decimal_of n) 45 k × (k ≤ 80) × IsTurn n.sign k e × (e < 8)
IsAngle n (Err NotAngle) = (k : ℕ) → k ≤ 80 → IsTimes (decimal_of n) 45 k → ⊥
IsAngle n (Err NotNumber) = ⊥

-- the text is a number where the answer isn't `NotNumber`
abbrev pub IsAngleUnless : List ℕ → Result ℕ AngleFault → Type 0
IsAngleUnless text (Ok e) = IsNumberText text
IsAngleUnless text (Err NotAngle) = IsNumberText text
IsAngleUnless text (Err NotNumber) = ⊤
