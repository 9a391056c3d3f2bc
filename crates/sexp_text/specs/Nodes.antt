-- The numbers of a tree's lists and words, in the order in which they begin.
-- Cited by: `Tree`.
use Rattle.std.specs.Prelude.{◌≡◌, ℕ, ◌+◌, ◌-◌, ◌==◌, nat_lt, ◌≤◌, Bool, true, false, List, [], ◌∷◌, ◌++◌, take, drop, length, Option, Some, None, if◌then◌else◌}
use Rattle.sexp_text.specs.Shows.{grown}
use Rattle.sexp_text.specs.Forest.{Forest, End, Word, Branch}
use Rattle.sexp_text.specs.declared.cursor.TreeEntry.{TreeEntry}
use Rattle.sexp_text.specs.declared.cursor.TreeEntry.TheVariants as entries

-- how many lists and words there are
abbrev pub size : Forest → ℕ
size End = 0
size (Word at word rest) = 1 + size rest
size (Branch at inside rest) = 1 + (size inside + size rest)

-- whether there is none
abbrev pub is_end : Forest → Bool
is_end End = true
is_end (Word at word rest) = false
is_end (Branch at inside rest) = false

-- the n-th list or word, and what follows it in its list
abbrev pub from : ℕ → Forest → Forest
from n End = End
from n (Word at word rest) = if n == 0 then Word at word rest else from (n - 1) rest
from n (Branch at inside rest) = if n == 0 then Branch at inside rest else
    if nat_lt (n - 1) (size inside) then from (n - 1) inside else from (n - 1 - size inside) rest

-- these entries lie for the forest: each list knows how many stand within it, and each knows whether it is the last
abbrev pub Lays : List ℕ → Forest → List TreeEntry → Type 0
Lays pool End es = es ≡ []
Lays pool (Word at word rest) es =
    (start : ℕ) × (end : ℕ) × (more : List TreeEntry) × (es ≡ entries.Word (is_end rest) at start end ∷ more) × (start ≤ end) × (end ≤ length pool) × (take (end - start) (drop start pool) ≡ word) × Lays pool rest more
Lays pool (Branch at inside rest) es =
    (within : List TreeEntry) × (more : List TreeEntry) × (es ≡ entries.List (is_end rest) at (length within) ∷ (within ++ more)) × Lays pool inside within × Lays pool rest more

-- the entries lie for the forest that they are read as
abbrev pub IsLaid : List ℕ → List TreeEntry → Type 0
IsLaid pool es = Lays pool (grown (length es) pool es) es

-- how an entry, the n-th of so many, stands for what begins there
abbrev pub Fits : List ℕ → TreeEntry → ℕ → ℕ → Forest → Type 0
Fits pool e n count End = ⊥
Fits pool (entries.Word last at start end) n count (Word a word rest) = (at ≡ a) × (last ≡ is_end rest) × (take (end - start) (drop start pool) ≡ word)
Fits pool (entries.Word last at start end) n count (Branch a inside rest) = ⊥
Fits pool (entries.List last at k) n count (Word a word rest) = ⊥
Fits pool (entries.List last at k) n count (Branch a inside rest) = (at ≡ a) × (last ≡ is_end rest) × (k ≡ size inside) × (n + 1 + k ≤ count)

-- the number of what follows the n-th in its list, where something does
abbrev pub next_of : ℕ → Forest → Option ℕ
next_of n End = None
next_of n (Word at word rest) = if is_end rest then None else Some (n + 1)
next_of n (Branch at inside rest) = if is_end rest then None else Some (n + 1 + size inside)

-- the number of the first within the n-th, where it is a list and something stands within it
abbrev pub first_of : ℕ → Forest → Option ℕ
first_of n End = None
first_of n (Word at word rest) = None
first_of n (Branch at inside rest) = if is_end inside then None else Some (n + 1)

-- the byte at which it begins
abbrev pub byte_of : Forest → ℕ
byte_of End = 0
byte_of (Word at word rest) = at
byte_of (Branch at inside rest) = at

-- the text of the word that it begins with
abbrev pub text_first : Forest → List ℕ
text_first End = []
text_first (Word at word rest) = word
text_first (Branch at inside rest) = []

-- it begins with a word
abbrev pub IsWordFirst : Forest → Type 0
IsWordFirst End = ⊥
IsWordFirst (Word at word rest) = Unit {0}
IsWordFirst (Branch at inside rest) = ⊥

-- it begins with a list
abbrev pub IsListFirst : Forest → Type 0
IsListFirst End = ⊥
IsListFirst (Word at word rest) = ⊥
IsListFirst (Branch at inside rest) = Unit {0}
