-- The names that the lists of a section state, collected before the section is read.
use Rattle.std.specs.Prelude.{ℕ, List, [], ◌∷◌, ◌++◌, if◌then◌else◌}
use Rattle.sexp_text.specs.Forest.{Forest, End, Word, Branch}
use Rattle.dsn_lists.specs.Names.{is_among}
use Rattle.dsn_lists.specs.Words.{same, head_of}

-- the names, and a word that stands first where it isn't among them
unfoldable pub with_first : List (List ℕ) → Forest → List (List ℕ)
with_first names End = names
with_first names (Word at text rest) = if is_among text names then names else names ++ text ∷ []
with_first names (Branch at inside rest) = names

-- the names behind a list, which may state one where it has this keyword
unfoldable pub names_behind : List ℕ → List (List ℕ) → Forest → List (List ℕ)
names_behind keyword names inside = if same (head_of inside).text keyword then with_first names (head_of inside).args else names

-- the names, and those that the lists of this keyword state
unfoldable pub names_ahead : List ℕ → List (List ℕ) → Forest → List (List ℕ)
names_ahead keyword names End = names
names_ahead keyword names (Word at text rest) = names_ahead keyword names rest
names_ahead keyword names (Branch at inside rest) = names_ahead keyword (names_behind keyword names inside) rest
