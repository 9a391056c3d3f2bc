-- What is read are the tokens of the text, and what follows them.
use Rattle.std.proofs.Common.{◌≡◌, ℕ, ◌+◌, List, ◌∷◌, ◌++◌, length, Option, Some, None, ◌⊎◌}
use Rattle.std.specs.List.{flat_map, AllByRecursion}
use Rattle.sexp_text.specs.declared.token.Token.{Token}
use Rattle.sexp_text.specs.declared.token.TokenKind.TheVariants.{Word}
use Rattle.sexp_text.specs.declared.modes.Before.{Before}
use Rattle.sexp_text.specs.Scan.{ended, token}
use Rattle.sexp_text.specs.Words.{IsInner, Piece, spelled, IsPiece, IsOver, IsUnended}
use Rattle.sexp_text.specs.Text.{TokensThen, IsEnd, BreaksAt}
use Rattle.sexp_text.proofs.Spelling.{spelling}

-- what follows the tokens: nothing, or the quote at fault
abbrev pub Follows : Option ℕ → Before → ℕ → List ℕ → Type 0
Follows None f p text = IsEnd f p text
Follows (Some at) f p text = BreaksAt at f p text

pub record FromGap (o : Option ℕ) (first : List Token) (f : Before) (p : ℕ) (us : List Token) (text : List ℕ) : Type 0 where
  pub ts : List Token
  pub joined : us ≡ first ++ ts
  pub has : TokensThen (Follows o) f p ts text

-- parts, and the word is over
pub record Ends (o : Option ℕ) (first : List Token) (s : ℕ) (u : Option ℕ) (p : ℕ) (us : List Token) (text : List ℕ) : Type 0 where
  pub pieces : List Piece
  pub rest : List ℕ
  pub ts : List Token
  pub formed : AllByRecursion IsPiece pieces
  pub parts : text ≡ flat_map spelled pieces ++ rest
  pub over : IsOver rest
  pub joined : us ≡ first ++ token Word s (p + length (flat_map spelled pieces)) ∷ ts
  pub has : TokensThen (Follows o) (ended (spelling u (flat_map spelled pieces))) (p + length (flat_map spelled pieces)) ts rest

-- parts, and then an open quote
pub record Breaks (o : Option ℕ) (first : List Token) (p : ℕ) (us : List Token) (text : List ℕ) : Type 0 where
  pub pieces : List Piece
  pub rest : List ℕ
  pub formed : AllByRecursion IsPiece pieces
  pub parts : text ≡ flat_map spelled pieces ++ 34 ∷ rest
  pub unended : IsUnended rest
  pub told : o ≡ Some (p + length (flat_map spelled pieces))
  pub same : us ≡ first

abbrev pub FromWord : Option ℕ → List Token → ℕ → Option ℕ → ℕ → List Token → List ℕ → Type 0
FromWord o first s u p us text = Ends o first s u p us text ⊎ Breaks o first p us text

pub record Closes (o : Option ℕ) (first : List Token) (s : ℕ) (u : Option ℕ) (p : ℕ) (us : List Token) (text : List ℕ) : Type 0 where
  pub inner : List ℕ
  pub rest : List ℕ
  pub formed : AllByRecursion IsInner inner
  pub parts : text ≡ inner ++ 34 ∷ rest
  pub word : FromWord o first s (spelling u inner) (p + length inner + 1) us rest

pub record StaysOpen (o : Option ℕ) (first : List Token) (quote : ℕ) (us : List Token) (text : List ℕ) : Type 0 where
  pub unended : IsUnended text
  pub told : o ≡ Some quote
  pub same : us ≡ first

abbrev pub FromQuote : Option ℕ → List Token → ℕ → ℕ → Option ℕ → ℕ → List Token → List ℕ → Type 0
FromQuote o first s q u p us text = Closes o first s u p us text ⊎ StaysOpen o first q us text
