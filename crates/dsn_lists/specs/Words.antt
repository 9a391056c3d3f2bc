-- The words of a list, and what a list is by its first word.
use Rattle.std.specs.Prelude.{ℕ, Bool, List, [], ◌∷◌, ◌++◌, map, Ok}
use Rattle.std.specs.Str.{bytes_eq}
use Rattle.std.specs.Char.{to_ascii_lowercase}
use Rattle.sexp_text.specs.Forest.{Forest, End, Word, Branch}
use Rattle.sexp_text.specs.Shows.{forest}
use Rattle.dsn_lists.specs.declared.faults.DesignKind.TheVariants.{Form}
use Rattle.dsn_lists.specs.declared.marks.Mark.{Mark}
use Rattle.dsn_lists.specs.declared.words.Found.{Found}
use Rattle.dsn_lists.specs.declared.words.Head.{Head}
use Rattle.dsn_lists.specs.Results.{Read, ◌>>=◌, wrong, each}

-- the words are the same but for the case of ASCII letters
unfoldable pub same : List ℕ → List ℕ → Bool
same a b = bytes_eq (map to_ascii_lowercase a) (map to_ascii_lowercase b)

-- a word and its byte
abbrev pub mark : ℕ → List ℕ → Mark
mark at text = record { at = at; name = text }

abbrev pub marked : Found → Mark
marked f = mark f.at f.text.now

-- the keyword of a list with its byte, and what stands behind it; no text where the list doesn't begin with a word
pub record Heading : Type 0 where
  pub at : ℕ
  pub text : List ℕ
  pub args : Forest

unfoldable pub head_of : Forest → Heading
head_of End = record { at = 0; text = []; args = End }
head_of (Word at text rest) = record { at = at; text = text; args = rest }
head_of (Branch at inside rest) = record { at = 0; text = []; args = Branch at inside rest }

abbrev pub heading : Head → Heading
heading h = record { at = h.at; text = h.text.now; args = forest h.args }

-- the next word of the list that begins at this byte, and what follows
unfoldable pub word_of : ℕ → Forest → Read (Mark × Forest)
word_of at End = wrong Form at
word_of at (Word a text rest) = Ok (mark a text, rest)
word_of at (Branch a inside rest) = wrong Form a

-- a list that is read over
abbrev pub spare_list : Unit {0} → ℕ → Forest → Read (Unit {0})
spare_list x at inside = Ok x

-- no word follows, and lists are read over
abbrev pub spare : Forest → Read (Unit {0})
spare f = each spare_list tt f

-- the word of a list that holds one
unfoldable pub one_word : ℕ → Forest → Read Mark
one_word at f = do
  w ← word_of at f
  _ ← spare w.1
  Ok w.0

-- the words up to a list or the end, behind those that are there, and what follows
unfoldable pub names : List Mark → Forest → List Mark × Forest
names ms End = (ms, End)
names ms (Word at text rest) = names (ms ++ mark at text ∷ []) rest
names ms (Branch at inside rest) = (ms, Branch at inside rest)

-- the words of a list that has one or more
unfoldable pub name_list : ℕ → Forest → Read (List Mark)
name_list at f = do
  w ← word_of at f
  _ ← spare (names (w.0 ∷ []) w.1).1
  Ok (names (w.0 ∷ []) w.1).0
