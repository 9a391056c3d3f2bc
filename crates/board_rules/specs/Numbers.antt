-- Numbers that stand for the names of classes: a name's place among the names in the order in which they came.
-- Cited by `PairTables`, which finds a pair of names by them
use Rattle.std.specs.Prelude.{ℕ, ◌++◌, List, [], ◌∷◌, map, if◌then◌else◌}
use Rattle.std.specs.List.{list_any, position_or_len}
use Rattle.std.specs.Str.{bytes_eq}
use Rattle.std.specs.Global.{Vec}
use Rattle.board_rules.specs.declared.design.ClassRow.{ClassRow}

-- the texts of names
abbrev pub texts : List (Vec ℕ) → List (List ℕ)
texts names = map (λ v. v.items) names

-- the number of a name, which is the next one where the name is new
abbrev pub number_of : List (List ℕ) → List ℕ → ℕ
number_of names name = position_or_len (bytes_eq name) names

-- the names and this one
abbrev pub with_name : List (List ℕ) → List ℕ → List (List ℕ)
with_name names name = if list_any (bytes_eq name) names then names else names ++ name ∷ []

-- the numbers of the names of classes that come after these names
abbrev pub numbers_after : List (List ℕ) → List ClassRow → List ℕ
numbers_after names [] = []
numbers_after names (c ∷ rest) = number_of names c.name ∷ numbers_after (with_name names c.name) rest

-- the numbers of the names of classes
abbrev pub numbers_of : List ClassRow → List ℕ
numbers_of classes = numbers_after [] classes
