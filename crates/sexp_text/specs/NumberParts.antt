-- Where the text of a number is cut into its parts.
use Rattle.std.specs.Prelude.{◌≡◌, ◌≢◌, ℕ, Bool, false, ◌==◌, ◌||◌, List, ◌++◌, slice_index}
use Rattle.std.specs.List.{AllByRecursion}
use Rattle.sexp_text.specs.declared.number.Sign.{Sign}
use Rattle.sexp_text.specs.NumberTexts.{IsPlaces, sign_bytes}

-- the byte is one of two marks
abbrev pub is_either : ℕ → ℕ → ℕ → Bool
is_either a b c = (c == a) || (c == b)

-- no byte is one of two marks
abbrev pub IsFree : ℕ → ℕ → List ℕ → Type 0
IsFree a b text = AllByRecursion (λ c. is_either a b c ≡ false) text

-- no sign stands in front
abbrev pub IsBare : List ℕ → Type 0
IsBare text = (slice_index text 0 ≢ 43) × (slice_index text 0 ≢ 45)

-- what the text is but for a sign in front can only be so
abbrev pub IsOnlySplit : List ℕ → Sign → List ℕ → Type 0
IsOnlySplit text sign rest = (s : Sign) (bare : List ℕ) → IsBare bare → text ≡ sign_bytes s ++ bare → (sign ≡ s) × (rest ≡ bare)

-- the text is a sign and the digits of an exponent
abbrev pub IsPowerText : List ℕ → Type 0
IsPowerText text = (s : Sign) × (digits : List ℕ) × IsPlaces digits × (text ≡ sign_bytes s ++ digits)
