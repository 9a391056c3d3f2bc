-- The forms of the command line.
-- Cited by `run`
use Rattle.std.specs.Prelude.{◌≡◌, ℕ, List, [], ◌∷◌, length, codes}
use Rattle.whole_files.specs.Words.{text_at}

-- the words are `check` and a name
pub record IsCheck (words : List (List ℕ)) : Type 0 where
  pub count : length words ≡ 2
  pub command : text_at words 0 ≡ codes "check"

-- the words are `replay` and three names
pub record IsReplay (words : List (List ℕ)) : Type 0 where
  pub count : length words ≡ 4
  pub command : text_at words 0 ≡ codes "replay"

-- the names of the design, the script and the session file
pub record Names : Type 0 where
  pub design : List ℕ
  pub script : List ℕ
  pub session : List ℕ

abbrev pub named : List ℕ → List ℕ → List ℕ → Names
named design script session = record { design = design; script = script; session = session }

-- the three names in the words
abbrev pub names_in : List (List ℕ) → Names
names_in words = named (text_at words 1) (text_at words 2) (text_at words 3)

-- the names in the order in which the files are asked for
abbrev pub three : Names → List (List ℕ)
three names = names.design ∷ names.script ∷ names.session ∷ []
