-- The words of the command line, as texts.
-- Left out: which words a program takes, which is its own.
-- Cited by: the programs, and by what they ask of files.
use Rattle.std.specs.Prelude.{◌≡◌, ℕ, List, [], ◌++◌, take, drop, slice_index_or, string_bytes, map}
use Rattle.std.specs.Prelude.{String}
use Rattle.std.specs.declared.alloc.Global.{Global}

-- the texts of the words
abbrev pub texts : List (String Global) → List (List ℕ)
texts words = map string_bytes words

-- the text of the word at this place, or nothing where there is none
abbrev pub text_at : List (List ℕ) → ℕ → List ℕ
text_at words i = slice_index_or words i []

-- the words behind the command
abbrev pub names_behind : List (List ℕ) → List (List ℕ)
names_behind words = drop 1 words

-- some first ones of the names were asked for
abbrev pub Asked : List (List ℕ) → List (List ℕ) → List (List ℕ) → Type 0
Asked names old new = (k : ℕ) × (new ≡ old ++ take k names)
