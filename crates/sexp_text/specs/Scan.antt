-- A text byte by byte: its tokens, and the first quote that is at fault.
use Rattle.std.specs.Prelude.{ℕ, ◌+◌, ◌==◌, ◌&&◌, nat_lt, List, [], ◌∷◌, ◌++◌, Option, Some, None, Result, Ok, Err, slice_index, codes, if◌then◌else◌}
use Rattle.std.specs.Char.{to_ascii_lowercase}
use Rattle.sexp_text.specs.declared.fault.TextFault.{TextFault}
use Rattle.sexp_text.specs.declared.fault.TextFault.TheVariants as faults
use Rattle.sexp_text.specs.declared.token.Token.{Token}
use Rattle.sexp_text.specs.declared.token.TokenKind.{TokenKind}
use Rattle.sexp_text.specs.declared.token.TokenKind.TheVariants as kind
use Rattle.sexp_text.specs.declared.modes.Before.{Before}
use Rattle.sexp_text.specs.declared.modes.Before.TheVariants.{Other, Bracket, Keyword}
use Rattle.sexp_text.specs.declared.modes.Class.{Class}
use Rattle.sexp_text.specs.declared.modes.Class.TheVariants as is
use Rattle.sexp_text.specs.declared.modes.Mode.{Mode}
use Rattle.sexp_text.specs.declared.modes.Mode.TheVariants as mode
use Rattle.sexp_text.specs.Words.{class}
pub use Rattle.sexp_text.specs.Results.{Gives}

-- how many bytes of the keyword a word spells with one more byte, where it is a front of the keyword
abbrev pub spell : Option ℕ → ℕ → Option ℕ
spell None b = None
spell (Some k) b = if nat_lt k 12 && (to_ascii_lowercase b == slice_index (codes "string_quote") k) then Some (k + 1) else None

-- a word that begins here may be the keyword
abbrev pub begun : Before → Option ℕ
begun Other = None
begun Bracket = Some 0
begun Keyword = None

-- what stands before the token after a word
abbrev pub ended : Option ℕ → Before
ended None = Other
ended (Some k) = if k == 12 then Keyword else Other

-- a token of this kind and these bytes
abbrev pub token : TokenKind → ℕ → ℕ → Token
token k start end = record { kind = k; start = start; end = end }

-- what a quote between two tokens does: it is the word behind the keyword, or it opens a quoted part
abbrev pub quote_step : List Token → Before → ℕ → List Token × Mode
quote_step ts Keyword p = (ts ++ token kind.Word p (p + 1) ∷ [], mode.Gap Other)
quote_step ts Other p = (ts, mode.Quoted p p None)
quote_step ts Bracket p = (ts, mode.Quoted p p (Some 0))

-- what a bare byte between two tokens does: it is at fault behind the keyword, or it begins a word
abbrev pub plain_step : Before → ℕ → ℕ → Mode
plain_step Keyword p b = mode.Broken p
plain_step Other p b = mode.Word p None
plain_step Bracket p b = mode.Word p (spell (Some 0) b)

-- the tokens and the mode after a byte between two tokens
abbrev pub gap_step : List Token → Before → ℕ → ℕ → Class → List Token × Mode
gap_step ts before p b is.Blank = (ts, mode.Gap before)
gap_step ts before p b is.Break = (ts, mode.Gap before)
gap_step ts before p b is.Left = (ts ++ token kind.Left p (p + 1) ∷ [], mode.Gap Bracket)
gap_step ts before p b is.Right = (ts ++ token kind.Right p (p + 1) ∷ [], mode.Gap Other)
gap_step ts before p b is.Quote = quote_step ts before p
gap_step ts before p b is.Plain = (ts, plain_step before p b)

-- the tokens and the mode after a byte in a word, outside quoted parts
abbrev pub word_step : List Token → ℕ → Option ℕ → ℕ → ℕ → Class → List Token × Mode
word_step ts start spelt p b is.Quote = (ts, mode.Quoted start p spelt)
word_step ts start spelt p b is.Plain = (ts, mode.Word start (spell spelt b))
word_step ts start spelt p b is.Blank = gap_step (ts ++ token kind.Word start p ∷ []) (ended spelt) p b is.Blank
word_step ts start spelt p b is.Break = gap_step (ts ++ token kind.Word start p ∷ []) (ended spelt) p b is.Break
word_step ts start spelt p b is.Left = gap_step (ts ++ token kind.Word start p ∷ []) (ended spelt) p b is.Left
word_step ts start spelt p b is.Right = gap_step (ts ++ token kind.Word start p ∷ []) (ended spelt) p b is.Right

-- the mode after a byte in a quoted part
abbrev pub quoted_step : ℕ → ℕ → Option ℕ → ℕ → Class → Mode
quoted_step start quote spelt b is.Quote = mode.Word start spelt
quoted_step start quote spelt b is.Break = mode.Broken quote
quoted_step start quote spelt b is.Blank = mode.Quoted start quote (spell spelt b)
quoted_step start quote spelt b is.Left = mode.Quoted start quote (spell spelt b)
quoted_step start quote spelt b is.Right = mode.Quoted start quote (spell spelt b)
quoted_step start quote spelt b is.Plain = mode.Quoted start quote (spell spelt b)

-- the tokens and the mode after a byte
abbrev pub step_of : List Token → Mode → ℕ → ℕ → List Token × Mode
step_of ts (mode.Gap before) p b = gap_step ts before p b (class b)
step_of ts (mode.Word start spelt) p b = word_step ts start spelt p b (class b)
step_of ts (mode.Quoted start quote spelt) p b = (ts, quoted_step start quote spelt b (class b))
step_of ts (mode.Broken at) p b = (ts, mode.Broken at)

-- the tokens and the quote at fault at the end of a text
abbrev pub finish : List Token → Mode → ℕ → List Token × Option ℕ
finish ts (mode.Gap before) p = (ts, None)
finish ts (mode.Word start spelt) p = (ts ++ token kind.Word start p ∷ [], None)
finish ts (mode.Quoted start quote spelt) p = (ts, Some quote)
finish ts (mode.Broken at) p = (ts, Some at)

-- the tokens and the quote at fault of what is left of a text
unfoldable pub scan : List Token → Mode → ℕ → List ℕ → List Token × Option ℕ
scan ts m p [] = finish ts m p
scan ts m p (b ∷ bs) = scan (step_of ts m p b).0 (step_of ts m p b).1 (p + 1) bs

-- the tokens, unless a quote is at fault
abbrev pub told : List Token → Option ℕ → Result (List Token) TextFault
told ts None = Ok ts
told ts (Some at) = Err (faults.Quote at)

-- the tokens of a text, unless a quote is at fault
abbrev pub tokens_of : List ℕ → Result (List Token) TextFault
tokens_of text = told (scan [] (mode.Gap Other) 0 text).0 (scan [] (mode.Gap Other) 0 text).1
