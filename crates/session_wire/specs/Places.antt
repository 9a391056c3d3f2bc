-- Where a line without a reading is bad: the byte at which its first word begins that no reading continues,
-- an empty word too, or the line's length where it ends too early.
use Rattle.std.specs.Prelude.{ℕ, ◌≡◌, ◌⊎◌, List, [], ◌∷◌, ◌++◌, length}
use Rattle.session_wire.specs.Words.{IsWord, EndsWord}

-- a line with a reading begins with these words
abbrev pub Continues : (List ℕ → Type 0) → List ℕ → Type 0
Continues HasReading words = (rest : List ℕ) × EndsWord rest × HasReading (words ++ rest)

-- no byte stands before the word, or the words before it, which a reading continues, and a space
abbrev pub IsBefore : (List ℕ → Type 0) → List ℕ → Type 0
IsBefore HasReading before = (before ≡ []) ⊎ ((words : List ℕ) × (before ≡ words ++ 32 ∷ []) × Continues HasReading words)

-- the word at the byte is the first that no reading continues
pub record HasLostWord (HasReading : List ℕ → Type 0) (line : List ℕ) (at : ℕ) : Type 0 where
  pub before : List ℕ
  pub word : List ℕ
  pub rest : List ℕ
  pub parts : line ≡ before ++ (word ++ rest)
  pub place : at ≡ length before
  pub whole : IsWord word
  pub ends : EndsWord rest
  pub read : IsBefore HasReading before
  pub lost : Continues HasReading (before ++ word) → ⊥

-- the line ends too early: a reading continues its words, and it has none itself
pub record EndsEarly (HasReading : List ℕ → Type 0) (line : List ℕ) (at : ℕ) : Type 0 where
  pub place : at ≡ length line
  pub read : Continues HasReading line
  pub none : HasReading line → ⊥

-- the line is bad at the byte
abbrev pub IsBadAt : (List ℕ → Type 0) → List ℕ → ℕ → Type 0
IsBadAt HasReading line at = HasLostWord HasReading line at ⊎ EndsEarly HasReading line at
