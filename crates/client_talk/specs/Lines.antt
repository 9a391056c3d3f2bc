-- The lines of a file.
use Rattle.std.specs.Prelude.{◌≡◌, ◌≢◌, ◌⊎◌, ℕ, ◌<◌, ◌++◌, ◌==◌, if◌then◌else◌, List, [], ◌∷◌, length, codes}
use Rattle.std.specs.List.{AllByRecursion}
use Rattle.session_wire.specs.Steps.{IsLine}

-- a byte in front of a text's lines
abbrev pub onto : ℕ → List (List ℕ) → List (List ℕ)
onto b [] = (b ∷ []) ∷ []
onto b (line ∷ lines) = (b ∷ line) ∷ lines

-- the lines of a text, without their line ends; the last one may have none
abbrev pub lines_of : List ℕ → List (List ℕ)
lines_of [] = []
lines_of (b ∷ text) = if b == 10 then [] ∷ lines_of text else onto b (lines_of text)

-- the first line of a text, and what follows it
pub record Splits (text line after : List ℕ) : Type 0 where
  pub lines : lines_of text ≡ line ∷ lines_of after
  pub unended : IsLine line
  pub less : length after < length text

-- the line that ends a session
abbrev pub bye : List ℕ
bye = codes "bye"

-- the most that is sent of a file's lines: all of them and then `bye`, or all up to the first that is `bye`
pub record IsMost (lines sent : List (List ℕ)) : Type 0 where
  pub before : List (List ℕ)
  pub rest : List (List ℕ)
  pub none : AllByRecursion (λ line. line ≢ bye) before
  pub sent_is : sent ≡ before ++ bye ∷ []
  pub parts : (lines ≡ before) ⊎ (lines ≡ before ++ bye ∷ rest)
