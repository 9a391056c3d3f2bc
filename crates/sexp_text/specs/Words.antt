-- Models: the words of the Specctra reference's grammar, and its `string_quote` descriptor, whose quote stands bare.
-- Left out: another quote than `"`, and a word that holds a blank outside quotes.
use Rattle.std.specs.Prelude.{◌≡◌, ℕ, ◌==◌, ◌⊎◌, Bool, List, [], ◌∷◌, ◌++◌, map, filter, not, codes, if◌then◌else◌}
use Rattle.std.specs.List.{flat_map, AllByRecursion}
use Rattle.std.specs.Str.{bytes_eq}
use Rattle.std.specs.Char.{to_ascii_lowercase}
use Rattle.sexp_text.specs.declared.modes.Class.{Class}
use Rattle.sexp_text.specs.declared.modes.Class.TheVariants as is

-- what a byte is, outside quoted parts
unfoldable pub class : ℕ → Class
class b =
    if b == 32 then is.Blank else
    if b == 9 then is.Blank else
    if b == 13 then is.Blank else
    if b == 10 then is.Break else
    if b == 40 then is.Left else
    if b == 41 then is.Right else
    if b == 34 then is.Quote else is.Plain

-- space, tab, carriage return or line feed
abbrev pub IsBlank : ℕ → Type 0
IsBlank b = (class b ≡ is.Blank) ⊎ (class b ≡ is.Break)

-- none of blank, bracket, quote
abbrev pub IsBare : ℕ → Type 0
IsBare b = class b ≡ is.Plain

-- what may stand between two quotes: neither a quote nor a line feed
abbrev pub IsInner : ℕ → Type 0
IsInner b = (class b ≡ is.Quote → ⊥) × (class b ≡ is.Break → ⊥)

-- a part of a word
pub data Piece : Type 0 where
  Bare : (byte : ℕ) → Piece
  Quoted : (inner : List ℕ) → Piece

-- the bytes of a part
abbrev pub spelled : Piece → List ℕ
spelled (Bare b) = b ∷ []
spelled (Quoted q) = 34 ∷ (q ++ 34 ∷ [])

-- a bare byte, or a quoted part on one line
abbrev pub IsPiece : Piece → Type 0
IsPiece (Bare b) = IsBare b
IsPiece (Quoted q) = AllByRecursion IsInner q

-- parts that touch, at least one
pub record IsWord (bytes : List ℕ) : Type 0 where
  pub first : Piece
  pub others : List Piece
  pub first_formed : IsPiece first
  pub formed : AllByRecursion IsPiece others
  pub text : bytes ≡ spelled first ++ flat_map spelled others

-- no part of a word begins here
abbrev pub IsOver : List ℕ → Type 0
IsOver [] = Unit {0}
IsOver (b ∷ bs) = (class b ≡ is.Quote → ⊥) × (class b ≡ is.Plain → ⊥)

-- no quoted part ends here
abbrev pub IsUnended : List ℕ → Type 0
IsUnended text = (q more : List ℕ) → AllByRecursion IsInner q → text ≡ q ++ 34 ∷ more → ⊥

-- the bytes without the quotes
abbrev pub unquoted : List ℕ → List ℕ
unquoted bytes = filter (λ b. not (b == 34)) bytes

-- whether these bytes spell the keyword `string_quote`, in any case of letters
abbrev pub is_keyword : List ℕ → Bool
is_keyword bytes = bytes_eq (map to_ascii_lowercase (unquoted bytes)) (codes "string_quote")
