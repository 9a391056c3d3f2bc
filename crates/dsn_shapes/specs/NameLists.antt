-- The names that lists of one keyword state, said of all of them at once.
use Rattle.std.specs.Prelude.{ℕ, not, List, [], ◌∷◌, if◌then◌else◌}
use Rattle.std.specs.List.{filter}
use Rattle.std.specs.Str.{bytes_eq}
use Rattle.sexp_text.specs.Forest.{Forest, End, Word, Branch}
use Rattle.dsn_lists.specs.Words.{same, head_of}

-- each name where it stands first: the first one, and behind it the others, each once
abbrev pub each_once : List (List ℕ) → List (List ℕ)
each_once [] = []
each_once (name ∷ names) = name ∷ filter (λ other. not (bytes_eq other name)) (each_once names)

-- the word that stands first
abbrev pub first_word : Forest → List (List ℕ)
first_word End = []
first_word (Word at text rest) = text ∷ []
first_word (Branch at inside rest) = []

-- the word behind the keyword of a list, where it has this one
abbrev pub first_of : List ℕ → ℕ → Forest → List (List ℕ)
first_of keyword at inside = if same (head_of inside).text keyword then first_word (head_of inside).args else []
