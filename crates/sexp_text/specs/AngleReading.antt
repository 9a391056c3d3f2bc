-- The angle that a text states, as the functions compute it.
-- `IsAngle` says what a number's angle is; `proofs/AngleLaws.antt` has the bridge, both ways.
use Rattle.std.specs.Prelude.{ℕ, ◌-◌, ◌*◌, ◌/◌, ◌%◌, ◌^◌, nat_le, ◌==◌, ◌&&◌, List, Option, Some, None, Result, Ok, Err, if◌then◌else◌}
use Rattle.sexp_text.specs.declared.angle_fault.AngleFault.{AngleFault}
use Rattle.sexp_text.specs.declared.angle_fault.AngleFault.TheVariants.{NotNumber, NotAngle}
use Rattle.sexp_text.specs.declared.number.Sign.{Sign}
use Rattle.sexp_text.specs.declared.number.Sign.TheVariants.{Bare, Plus, Minus}
use Rattle.sexp_text.specs.declared.number.Decimal.{Decimal}
use Rattle.sexp_text.specs.LengthReading.{decimal_in}

-- the eighths, 0 to 7, that so many with a sign are
abbrev pub eighths_of : Sign → ℕ → ℕ
eighths_of Bare k = k % 8
eighths_of Plus k = k % 8
eighths_of Minus k = 7 * k % 8

-- the eighths of number / one with a sign, where that is whole and at most 80
abbrev pub eighths_by : Sign → ℕ → ℕ → Result ℕ AngleFault
eighths_by sign number one = if (number % one == 0) && nat_le (number / one) 80 then Ok (eighths_of sign (number / one)) else Err NotAngle

-- the angle of a decimal, where there is one
abbrev pub angle_by : Option Decimal → Result ℕ AngleFault
angle_by None = Err NotNumber
angle_by (Some d) = eighths_by d.sign (d.digits * 10 ^ (d.right - d.left)) (45 * 10 ^ (d.left - d.right))

-- the angle that a text states
unfoldable pub angle_in : List ℕ → Result ℕ AngleFault
angle_in text = angle_by (decimal_in text)
