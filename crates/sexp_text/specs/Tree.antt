-- Models: the tree of lists and words that a text spells, to 64 levels, and its first text fault.
-- Cited by: `read_tree`.
use Rattle.std.specs.Prelude.{◌≡◌, ℕ, ◌+◌, ◌-◌, ◌≤◌, max, List, [], ◌∷◌, ◌++◌, length, take, drop, if◌then◌else◌}
use Rattle.std.specs.Str.{bytes_eq}
use Rattle.row_lists.specs.Limits.{nesting_limit_levels}
use Rattle.sexp_text.specs.Forest.{Forest, End, Word, Branch}
use Rattle.sexp_text.specs.declared.fault.TextFault.{TextFault}
use Rattle.sexp_text.specs.declared.fault.TextFault.TheVariants as faults
use Rattle.sexp_text.specs.declared.modes.Before.{Before}
use Rattle.sexp_text.specs.declared.modes.Before.TheVariants.{Other}
use Rattle.sexp_text.specs.declared.token.Token.{Token}
use Rattle.sexp_text.specs.declared.token.TokenKind.{TokenKind}
use Rattle.sexp_text.specs.declared.token.TokenKind.TheVariants as kind
use Rattle.sexp_text.specs.Words.{unquoted}
use Rattle.sexp_text.specs.Text.{HasNext, TokensThen, HasTokens, BreaksAt}

-- the text of a word of these bytes: what stands in them beside the quotes, or the quote that stands bare
abbrev pub word_text : List ℕ → List ℕ
word_text bytes = if bytes_eq bytes (34 ∷ []) then bytes else unquoted bytes

-- the text of a token that is a word
abbrev pub text_of : List ℕ → Token → List ℕ
text_of text t = word_text (take (t.end - t.start) (drop t.start text))

-- the tokens are those of the forest, each word and list at its byte
abbrev pub HasForest : List ℕ → List Token → Forest → Type 0
HasForest text ts End = ts ≡ []
HasForest text ts (Word at word rest) =
    (t : Token) × (more : List Token) × (ts ≡ t ∷ more) × (t.kind ≡ kind.Word) × (t.start ≡ at) × (text_of text t ≡ word) × HasForest text more rest
HasForest text ts (Branch at inside rest) =
    (l : Token) × (r : Token) × (within : List Token) × (more : List Token) × (ts ≡ l ∷ (within ++ r ∷ more)) × (l.kind ≡ kind.Left) × (l.start ≡ at) × (r.kind ≡ kind.Right)
    × HasForest text within inside × HasForest text more rest

-- how many lists stand within one another
abbrev pub depth : Forest → ℕ
depth End = 0
depth (Word at word rest) = depth rest
depth (Branch at inside rest) = max (depth inside + 1) (depth rest)

-- the text is this forest, of 64 levels at most
pub record IsTree (text : List ℕ) (f : Forest) : Type 0 where
  pub tokens : List Token
  pub spelled : HasTokens text tokens
  pub shape : HasForest text tokens f
  pub levels : depth f ≤ nesting_limit_levels

-- a list that is open: what stands before its bracket, its bracket, and the forest behind it
pub record HasOpen (text : List ℕ) (ts : List Token) (at : ℕ) (f : Forest) (before : List Token) : Type 0 where
  pub bracket : Token
  pub within : List Token
  pub parts : ts ≡ before ++ bracket ∷ within
  pub left : bracket.kind ≡ kind.Left
  pub place : bracket.start ≡ at
  pub shape : HasForest text within f

-- the tokens are whole words and lists, and lists that are open at these bytes, the innermost first, all in 64 levels
abbrev pub HasOpened : List ℕ → List Token → List ℕ → Type 0
HasOpened text ts [] = (f : Forest) × HasForest text ts f × (depth f ≤ nesting_limit_levels)
HasOpened text ts (at ∷ opens) = (before : List Token) × (f : Forest) × HasOpen text ts at f before × (length opens + 1 + depth f ≤ nesting_limit_levels) × HasOpened text before opens

-- the next token is of this kind, at this byte
abbrev pub NextIs : TokenKind → ℕ → Before → ℕ → List ℕ → Type 0
NextIs k at before p text = (t : Token) × (bytes : List ℕ) × (rest : List ℕ) × HasNext before p t text bytes rest × (t.kind ≡ k) × (t.start ≡ at)

-- The first text fault: a front of whole words and lists and of open lists, and what breaks behind it; or, at the
-- end, the innermost list that is open.
abbrev pub IsFirstFault : List ℕ → TextFault → Type 0
IsFirstFault text (faults.Quote at) = (ts : List Token) × (opens : List ℕ) × TokensThen (BreaksAt at) Other 0 ts text × HasOpened text ts opens
IsFirstFault text (faults.Deep at) = (ts : List Token) × (opens : List ℕ) × TokensThen (NextIs kind.Left at) Other 0 ts text × HasOpened text ts opens × (length opens ≡ nesting_limit_levels)
IsFirstFault text (faults.Unopened at) = (ts : List Token) × TokensThen (NextIs kind.Right at) Other 0 ts text × HasOpened text ts []
IsFirstFault text (faults.Unclosed at) = (ts : List Token) × (opens : List ℕ) × HasTokens text ts × HasOpened text ts (at ∷ opens)
IsFirstFault text faults.Memory = ⊥

-- why a text has no tree: its first text fault, but for want of memory
abbrev pub WhyNoTree : List ℕ → TextFault → Type 0
WhyNoTree text (faults.Quote at) = IsFirstFault text (faults.Quote at)
WhyNoTree text (faults.Deep at) = IsFirstFault text (faults.Deep at)
WhyNoTree text (faults.Unopened at) = IsFirstFault text (faults.Unopened at)
WhyNoTree text (faults.Unclosed at) = IsFirstFault text (faults.Unclosed at)
WhyNoTree text faults.Memory = Unit {0}
