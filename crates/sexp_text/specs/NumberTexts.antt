-- Which texts are numbers, and the value that each writes.
-- Models: the number of the SPECCTRA reference, an optional sign and digits with a point. Added: an exponent. Left out: a fraction as `3/4`.
use Rattle.std.specs.Prelude.{◌≡◌, ℕ, ◌+◌, ◌≤◌, ◌⊎◌, List, [], ◌∷◌, ◌++◌, length, Option, Some, None, ⊤}
use Rattle.std.specs.Str.Parse.{AllDigits, digits_value}
use Rattle.sexp_text.specs.declared.number.Sign.{Sign}
use Rattle.sexp_text.specs.declared.number.Sign.TheVariants.{Bare, Plus, Minus}
use Rattle.sexp_text.specs.declared.number.Decimal.{Decimal}

-- the bytes of a sign
abbrev pub sign_bytes : Sign → List ℕ
sign_bytes Bare = []
sign_bytes Plus = 43 ∷ []
sign_bytes Minus = 45 ∷ []

-- the parts of an exponent: `e` or `E`, a sign and digits
pub record Power : Type 0 where
  pub mark : ℕ
  pub sign : Sign
  pub digits : List ℕ

-- the parts of a number text: a sign, the digits before the point, those behind it where it has one, and an exponent where it has one
pub record Number : Type 0 where
  pub sign : Sign
  pub whole : List ℕ
  pub fraction : Option (List ℕ)
  pub power : Option Power

-- the point and the digits behind it
abbrev pub point_bytes : Option (List ℕ) → List ℕ
point_bytes None = []
point_bytes (Some digits) = 46 ∷ digits

-- the bytes of an exponent
abbrev pub power_bytes : Option Power → List ℕ
power_bytes None = []
power_bytes (Some p) = p.mark ∷ (sign_bytes p.sign ++ p.digits)

-- the bytes that follow the sign
abbrev pub unsigned_spelling : Number → List ℕ
unsigned_spelling n = (n.whole ++ point_bytes n.fraction) ++ power_bytes n.power

-- the text of the parts
abbrev pub spelling : Number → List ℕ
spelling n = sign_bytes n.sign ++ unsigned_spelling n

-- the digits behind the point
abbrev pub behind : Option (List ℕ) → List ℕ
behind None = []
behind (Some digits) = digits

-- one to 30 digits before and behind the point
pub record IsMantissa (whole fraction : List ℕ) : Type 0 where
  pub whole_digits : AllDigits 10 whole
  pub fraction_digits : AllDigits 10 fraction
  pub some : 1 ≤ length whole + length fraction
  pub at_most : length whole + length fraction ≤ 30

-- one to three digits
pub record IsPlaces (digits : List ℕ) : Type 0 where
  pub all : AllDigits 10 digits
  pub some : 1 ≤ length digits
  pub at_most : length digits ≤ 3

-- an exponent, where there is one, has its mark and its digits
abbrev pub IsPower : Option Power → Type 0
IsPower None = ⊤
IsPower (Some p) = ((p.mark ≡ 101) ⊎ (p.mark ≡ 69)) × IsPlaces p.digits

-- the parts are those of a number text
pub record IsNumber (n : Number) : Type 0 where
  pub mantissa : IsMantissa n.whole (behind n.fraction)
  pub power : IsPower n.power

-- the text is a number
abbrev pub IsNumberText : List ℕ → Type 0
IsNumberText text = (n : Number) × IsNumber n × (text ≡ spelling n)

-- by how many places an exponent moves the point to the right
abbrev pub right_by : Sign → ℕ → ℕ
right_by Bare places = places
right_by Plus places = places
right_by Minus places = 0

-- and to the left
abbrev pub left_by : Sign → ℕ → ℕ
left_by Bare places = 0
left_by Plus places = 0
left_by Minus places = places

abbrev pub right_of : Option Power → ℕ
right_of None = 0
right_of (Some p) = right_by p.sign (digits_value 10 p.digits)

abbrev pub left_of : Option Power → ℕ
left_of None = 0
left_of (Some p) = left_by p.sign (digits_value 10 p.digits)

-- the value of a number text: its digits without the point, and by how many places the point moves right and left
abbrev pub decimal_of : Number → Decimal
decimal_of n = record { sign = n.sign; digits = digits_value 10 (n.whole ++ behind n.fraction); right = right_of n.power; left = length (behind n.fraction) + left_of n.power }
