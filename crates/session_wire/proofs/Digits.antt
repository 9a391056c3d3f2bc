-- The decimal digits of numbers below 2 ^ 32.
use Rattle.std.proofs.Common.{◌≡◌, ℕ, zero, suc, ◌^◌, ◌<◌, List, length, get_or, sym, ap, arith}
use Rattle.std.specs.Fmt.{decimal}
use Rattle.std.specs.Str.{IsUtf8}
use Rattle.std.specs.Str.Parse.{AllDigits, digits_value}
use Rattle.std.specs.Int.{IsInRange}
use Rattle.std.proofs.lemmas.Fmt.{decimal_nonempty, first_decimal, decimal_digit, digits_decimal, IsAscii-from_digits, digits_value-decimal, decimal-digits_value}
use Rattle.std.proofs.lemmas.Str.Parse.{IsNumeralModel, numerals_by_value, tells_digits, digit_at}
use Rattle.std.proofs.lemmas.Str.{IsUtf8-from_ascii}

abbrev pub own : IsNumeralModel (AllDigits 10) (digits_value 10)
own = numerals_by_value (AllDigits 10) tells_digits

-- digits without leading zeros
pub record HasForm (ds : List ℕ) : Type 0 where
  pub some : 0 < length ds
  pub lone : get_or ds 0 0 ≡ 48 → length ds ≡ 1
  pub digits : AllDigits 10 ds

lone_zero : (n : ℕ) → n < 2 ^ 64 → get_or (decimal n) 0 0 ≡ 48 → length (decimal n) ≡ 1
lone_zero zero fits e = ap length (decimal_digit 0 (omega arith))
lone_zero (suc n) fits e = absurd (omega (arith, first_decimal (suc n) (omega arith) fits))

form_of_decimal : (n : ℕ) → n < 2 ^ 32 → HasForm (decimal n)
form_of_decimal n lt =
    let fits : n < 2 ^ 64 = omega arith in
    record { some = decimal_nonempty n fits; lone = lone_zero n fits; digits = digits_decimal own n fits }

-- what the digits of a number are
pub decimal_form : (n : ℕ) (ds : List ℕ) → n < 2 ^ 32 → ds ≡ decimal n → HasForm ds
decimal_form n ds lt e = rw e (form_of_decimal n lt)

pub decimal_value : (n : ℕ) (ds : List ℕ) → n < 2 ^ 32 → ds ≡ decimal n → digits_value 10 ds ≡ n
decimal_value n ds lt e = rw e (digits_value-decimal own n (omega arith))

-- digits of that form are those of their value
pub form_decimal : (ds : List ℕ) → HasForm ds → digits_value 10 ds < 2 ^ 32 → ds ≡ decimal (digits_value 10 ds)
form_decimal ds f low = sym (decimal-digits_value own ds f.digits f.some f.lone (omega arith))

pub first_digit : (ds : List ℕ) → AllDigits 10 ds → 0 < length ds → IsInRange 48 57 (get_or ds 0 0)
first_digit ds d some = digit_at ds 0 d some

pub digits_utf8 : (ds : List ℕ) → AllDigits 10 ds → IsUtf8 ds
digits_utf8 ds d = IsUtf8-from_ascii ds (IsAscii-from_digits ds d)

pub decimal_digits : (n : ℕ) → n < 2 ^ 32 → AllDigits 10 (decimal n)
decimal_digits n lt = digits_decimal own n (omega arith)
