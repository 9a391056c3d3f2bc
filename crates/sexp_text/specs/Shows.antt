-- How entries stand for a tree.
use Rattle.std.specs.Prelude.{◌≡◌, ℕ, zero, suc, ◌-◌, List, [], ◌∷◌, take, drop, length, min, ◌<◌}
use Rattle.sexp_text.specs.Forest.{Forest, End, Word, Branch}
use Rattle.sexp_text.specs.declared.cursor.TreeEntry.{TreeEntry}
use Rattle.sexp_text.specs.declared.cursor.TreeEntry.TheVariants as entries
use Rattle.sexp_text.specs.declared.cursor.Cursor.{Cursor}
use Rattle.sexp_text.specs.declared.cursor.Part.{Part}
use Rattle.sexp_text.specs.declared.cursor.Part.TheVariants as parts

-- the forest of at most so many entries
unfoldable pub grown : ℕ → List ℕ → List TreeEntry → Forest
grown zero text es = End
grown (suc n) text [] = End
grown (suc n) text (entries.Word last at start end ∷ es) = Word at (take (end - start) (drop start text)) (grown n text es)
grown (suc n) text (entries.List last at inside ∷ es) = Branch at (grown n text (take (min inside (length es)) es)) (grown n text (drop (min inside (length es)) es))

unfoldable pub forest : Cursor → Forest
forest c = grown (length c.entries.now) c.text.now c.entries.now

abbrev pub IsPart : Forest → Part → Type 0
IsPart f parts.End = f ≡ End
IsPart f (parts.Word at text rest) = f ≡ Word at text.now (forest rest)
IsPart f (parts.List at inside rest) = f ≡ Branch at (forest inside) (forest rest)

-- what follows has fewer entries
abbrev pub IsLess : ℕ → Part → Type 0
IsLess n parts.End = Unit {0}
IsLess n (parts.Word at text rest) = length rest.entries.now < n
IsLess n (parts.List at inside rest) = (length inside.entries.now < n) × (length rest.entries.now < n)
