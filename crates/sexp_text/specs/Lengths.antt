-- The length that a number text stands for in a unit, in whole nanometres.
-- Models: the unit of dimension of the SPECCTRA reference, and this profile's rounding: to the nearest nanometre, half away from zero.
use Rattle.std.specs.Prelude.{◌≡◌, ℕ, ℤ, pos, neg_ℤ, ◌+◌, ◌-◌, ◌*◌, ◌^◌, ◌<◌, ◌≤◌, List, Result, Ok, Err, ⊤}
use Rattle.row_lists.specs.Limits.{coordinate_limit_nm}
use Rattle.sexp_text.specs.declared.units.Unit.{Unit}
use Rattle.sexp_text.specs.declared.units.Unit.TheVariants.{Inch, Mil, Cm, Mm, Um}
use Rattle.sexp_text.specs.declared.num_fault.NumFault.{NumFault}
use Rattle.sexp_text.specs.declared.num_fault.NumFault.TheVariants.{NotNumber, Range}
use Rattle.sexp_text.specs.declared.number.Sign.{Sign}
use Rattle.sexp_text.specs.declared.number.Sign.TheVariants.{Bare, Plus, Minus}
use Rattle.sexp_text.specs.declared.number.Decimal.{Decimal}
use Rattle.sexp_text.specs.NumberTexts.{Number, IsNumberText, decimal_of}

-- how many nanometres one of the unit is
abbrev pub nanometres_of : Unit → ℕ
nanometres_of Inch = 25400000
nanometres_of Mil = 25400
nanometres_of Cm = 10000000
nanometres_of Mm = 1000000
nanometres_of Um = 1000

-- k is number / one, rounded to the nearest whole number, half upwards
pub record IsNearest (number one k : ℕ) : Type 0 where
  pub low : 2 * one * k ≤ 2 * number + one
  pub high : 2 * number < 2 * one * k + one

-- k is the size of the decimal in a unit of so many nanometres
abbrev pub IsSize : Decimal → ℕ → ℕ → Type 0
IsSize d per_unit k = IsNearest (d.digits * per_unit * 10 ^ (d.right - d.left)) (10 ^ (d.left - d.right)) k

-- a size with its sign
abbrev pub signed : Sign → ℕ → ℤ
signed Bare k = pos k
signed Plus k = pos k
signed Minus k = neg_ℤ (pos k)

-- the answer for a number: its length in nanometres, or `Range` exactly where that is above 1,000,000,000 in size
abbrev pub IsLength : Number → ℕ → Result ℤ NumFault → Type 0
IsLength n per_unit (Ok z) = (k : ℕ) × IsSize (decimal_of n) per_unit k × (k ≤ coordinate_limit_nm) × (z ≡ signed n.sign k)
IsLength n per_unit (Err Range) = (k : ℕ) × IsSize (decimal_of n) per_unit k × (coordinate_limit_nm < k)
IsLength n per_unit (Err NotNumber) = ⊥

-- the text is a number where the answer isn't `NotNumber`
abbrev pub IsNumberUnless : List ℕ → Result ℤ NumFault → Type 0
IsNumberUnless text (Ok z) = IsNumberText text
IsNumberUnless text (Err Range) = IsNumberText text
IsNumberUnless text (Err NotNumber) = ⊤
