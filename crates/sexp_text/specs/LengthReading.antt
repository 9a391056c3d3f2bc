-- The length that a text states in a unit, as the functions compute it.
-- `IsLength` says what a number's length is; `proofs/LengthLaws.antt` has the bridge, both ways.
use Rattle.std.specs.Prelude.{ℕ, ℤ, ◌+◌, ◌-◌, ◌*◌, ◌/◌, ◌^◌, nat_le, nat_lt, ◌==◌, ◌&&◌, Bool, List, [], ◌∷◌, ◌++◌, length, take, drop, Option, Some, None, Result, Ok, Err, if◌then◌else◌}
use Rattle.std.specs.List.{position, list_all}
use Rattle.std.specs.Char.{is_digit}
use Rattle.std.specs.Str.Parse.{digits_value}
use Rattle.row_lists.specs.Limits.{coordinate_limit_nm}
use Rattle.sexp_text.specs.declared.units.Unit.{Unit}
use Rattle.sexp_text.specs.declared.num_fault.NumFault.{NumFault}
use Rattle.sexp_text.specs.declared.num_fault.NumFault.TheVariants.{NotNumber, Range}
use Rattle.sexp_text.specs.declared.number.Sign.{Sign}
use Rattle.sexp_text.specs.declared.number.Sign.TheVariants.{Bare, Plus, Minus}
use Rattle.sexp_text.specs.declared.number.Decimal.{Decimal}
use Rattle.sexp_text.specs.NumberTexts.{sign_bytes, right_by, left_by}
use Rattle.sexp_text.specs.NumberParts.{is_either}
use Rattle.sexp_text.specs.Lengths.{nanometres_of, signed}

-- the sign that a byte is
abbrev pub sign_of : ℕ → Sign
sign_of c = if c == 43 then Plus else (if c == 45 then Minus else Bare)

-- the sign in front
unfoldable pub sign_in : List ℕ → Sign
sign_in [] = Bare
sign_in (c ∷ cs) = sign_of c

-- what follows the sign
unfoldable pub behind_sign : List ℕ → List ℕ
behind_sign text = drop (length (sign_bytes (sign_in text))) text

-- what stands before and behind a place, where there is one
abbrev pub halves : List ℕ → Option ℕ → Option (List ℕ × List ℕ)
halves text None = None
halves text (Some at) = Some (take at text, drop (at + 1) text)

-- what stands before and behind the first of two marks
unfoldable pub cut_in : ℕ → ℕ → List ℕ → Option (List ℕ × List ℕ)
cut_in mark other text = halves text (position (is_either mark other) text)

-- the bytes are digits, one or more and at most so many
unfoldable pub are_digits : ℕ → List ℕ → Bool
are_digits most digits =
    let count = length digits in
    (nat_lt 0 count && nat_le count most) && list_all (λ c. is_digit c 10) digits

-- the number that the digits before and behind a point write together, and how many stand behind it
unfoldable pub point_in : List ℕ → List ℕ → Option (ℕ × ℕ)
point_in whole fraction =
    let digits = whole ++ fraction in
    if are_digits 30 digits then Some (digits_value 10 digits, length fraction) else None

-- the same of digits that are cut at their point or have none
abbrev pub pointed : List ℕ → Option (List ℕ × List ℕ) → Option (ℕ × ℕ)
pointed text None = point_in text []
pointed text (Some parts) = point_in parts.0 parts.1

-- the same of a text of digits and a point
unfoldable pub mantissa_in : List ℕ → Option (ℕ × ℕ)
mantissa_in text = pointed text (cut_in 46 46 text)

-- the number of places that the digits of an exponent write
unfoldable pub places_in : List ℕ → Option ℕ
places_in digits = if are_digits 3 digits then Some (digits_value 10 digits) else None

-- by how many places so many with a sign move the point to the right and to the left
abbrev pub moved : Sign → Option ℕ → Option (ℕ × ℕ)
moved sign None = None
moved sign (Some places) = Some (right_by sign places, left_by sign places)

-- the same of the text of an exponent behind its mark
unfoldable pub power_in : List ℕ → Option (ℕ × ℕ)
power_in text = moved (sign_in text) (places_in (behind_sign text))

-- the decimal of a sign, a mantissa and an exponent
abbrev pub joined : Sign → Option (ℕ × ℕ) → Option (ℕ × ℕ) → Option Decimal
joined sign None power = None
joined sign (Some m) None = None
joined sign (Some m) (Some p) = Some (record { sign = sign; digits = m.0; right = p.0; left = m.1 + p.1 })

-- the decimal of a text that is cut at its exponent or has none
abbrev pub powered : Sign → List ℕ → Option (List ℕ × List ℕ) → Option Decimal
powered sign text None = joined sign (mantissa_in text) (Some (0, 0))
powered sign text (Some parts) = joined sign (mantissa_in parts.0) (power_in parts.1)

-- the decimal that a text behind its sign writes
unfoldable pub unsigned_in : Sign → List ℕ → Option Decimal
unsigned_in sign text = powered sign text (cut_in 101 69 text)

-- the decimal that a text writes
unfoldable pub decimal_in : List ℕ → Option Decimal
decimal_in text = unsigned_in (sign_in text) (behind_sign text)

-- number / one, rounded to the nearest whole number, half upwards
unfoldable pub nearest_to : ℕ → ℕ → ℕ
nearest_to number one = (2 * number + one) / (2 * one)

-- the size of a decimal in nm, in a unit of so many
unfoldable pub size_in : ℕ → Decimal → ℕ
size_in per_unit d =
    let number = d.digits * per_unit in
    if nat_le d.left d.right then number * 10 ^ (d.right - d.left) else nearest_to number (10 ^ (d.left - d.right))

-- a size with its sign, where it is at most 1,000,000,000 nm
abbrev pub limited : Sign → ℕ → Result ℤ NumFault
limited sign size = if nat_le size coordinate_limit_nm then Ok (signed sign size) else Err Range

-- the length of a decimal in a unit of so many nm, where there is one
abbrev pub length_by : ℕ → Option Decimal → Result ℤ NumFault
length_by per_unit None = Err NotNumber
length_by per_unit (Some d) = limited d.sign (size_in per_unit d)

-- the length in nm that a text states in a unit
unfoldable pub length_in : Unit → List ℕ → Result ℤ NumFault
length_in unit text = length_by (nanometres_of unit) (decimal_in text)
