-- Models: the words and brackets of a text, said of the whole text, and the first quote that is at fault.
-- Cited by: `lex`, `read_tree`.
use Rattle.std.specs.Prelude.{◌≡◌, ℕ, ◌+◌, List, [], ◌∷◌, ◌++◌, length, if◌then◌else◌}
use Rattle.std.specs.List.{flat_map, AllByRecursion}
use Rattle.sexp_text.specs.declared.fault.TextFault.{TextFault}
use Rattle.sexp_text.specs.declared.fault.TextFault.TheVariants as faults
use Rattle.sexp_text.specs.declared.token.Token.{Token}
use Rattle.sexp_text.specs.declared.token.TokenKind.{TokenKind}
use Rattle.sexp_text.specs.declared.token.TokenKind.TheVariants.{Left, Right, Word}
use Rattle.sexp_text.specs.declared.modes.Before.{Before}
use Rattle.sexp_text.specs.declared.modes.Before.TheVariants.{Other, Bracket, Keyword}
use Rattle.sexp_text.specs.Words.{IsBlank, IsBare, Piece, spelled, IsPiece, IsWord, IsOver, IsUnended, is_keyword}

-- what stands before the token that follows: `(`, `(` and the keyword, or something else
abbrev pub after : Before → TokenKind → List ℕ → Before
after before Left bytes = Bracket
after before Right bytes = Other
after Bracket Word bytes = if is_keyword bytes then Keyword else Other
after Other Word bytes = Other
after Keyword Word bytes = Other

-- these bytes are such a token: behind the keyword a word is one quote, whatever follows it
abbrev pub IsToken : Before → TokenKind → List ℕ → List ℕ → Type 0
IsToken before Left bytes rest = bytes ≡ 40 ∷ []
IsToken before Right bytes rest = bytes ≡ 41 ∷ []
IsToken Keyword Word bytes rest = bytes ≡ 34 ∷ []
IsToken Other Word bytes rest = IsWord bytes × IsOver rest
IsToken Bracket Word bytes rest = IsWord bytes × IsOver rest

-- behind blanks the text from byte p on has this token of these bytes, and then the rest
pub record HasNext (before : Before) (p : ℕ) (t : Token) (text bytes rest : List ℕ) : Type 0 where
  pub gap : List ℕ
  pub parts : text ≡ gap ++ (bytes ++ rest)
  pub blank : AllByRecursion IsBlank gap
  pub start : t.start ≡ p + length gap
  pub end : t.end ≡ t.start + length bytes
  pub is : IsToken before t.kind bytes rest

-- the text from byte p on has these tokens, and what follows them is so
abbrev pub TokensThen : (Before → ℕ → List ℕ → Type 0) → Before → ℕ → List Token → List ℕ → Type 0
TokensThen IsSo before p [] text = IsSo before p text
TokensThen IsSo before p (t ∷ ts) text =
    (bytes : List ℕ) × (rest : List ℕ) × HasNext before p t text bytes rest × TokensThen IsSo (after before t.kind bytes) t.end ts rest

-- nothing but blanks follows
abbrev pub IsEnd : Before → ℕ → List ℕ → Type 0
IsEnd before p text = AllByRecursion IsBlank text

-- the text has these tokens and no more
abbrev pub HasTokens : List ℕ → List Token → Type 0
HasTokens text ts = TokensThen IsEnd Other 0 ts text

-- behind blanks a word has a quote at this byte that isn't closed before a line feed or the end
pub record HasOpenQuote (p : ℕ) (text : List ℕ) (at : ℕ) : Type 0 where
  pub gap : List ℕ
  pub pieces : List Piece
  pub rest : List ℕ
  pub blank : AllByRecursion IsBlank gap
  pub formed : AllByRecursion IsPiece pieces
  pub parts : text ≡ gap ++ (flat_map spelled pieces ++ 34 ∷ rest)
  pub unended : IsUnended rest
  pub place : at ≡ p + length gap + length (flat_map spelled pieces)

-- behind blanks a word begins at this byte, and not with a quote
pub record HasBareWord (p : ℕ) (text : List ℕ) (at : ℕ) : Type 0 where
  pub gap : List ℕ
  pub byte : ℕ
  pub rest : List ℕ
  pub blank : AllByRecursion IsBlank gap
  pub bare : IsBare byte
  pub parts : text ≡ gap ++ byte ∷ rest
  pub place : at ≡ p + length gap

-- a fault `quote` at this byte: behind the keyword another word than a quote, and elsewhere an open quote
abbrev pub BreaksAt : ℕ → Before → ℕ → List ℕ → Type 0
BreaksAt at Keyword p text = HasBareWord p text at
BreaksAt at Other p text = HasOpenQuote p text at
BreaksAt at Bracket p text = HasOpenQuote p text at

-- behind tokens there is a fault `quote` at this byte
abbrev pub HasQuoteFault : List ℕ → ℕ → Type 0
HasQuoteFault text at = (ts : List Token) × TokensThen (BreaksAt at) Other 0 ts text

-- a fault of the words alone: a quote, but for want of memory
abbrev pub WhyNoTokens : List ℕ → TextFault → Type 0
WhyNoTokens text faults.Memory = Unit {0}
WhyNoTokens text (faults.Quote at) = HasQuoteFault text at
WhyNoTokens text (faults.Unclosed at) = ⊥
WhyNoTokens text (faults.Unopened at) = ⊥
WhyNoTokens text (faults.Deep at) = ⊥
