-- The numbers of things by their names.
use Rattle.std.specs.Prelude.{ℕ, List, [], ◌∷◌, ◌++◌, Option, Some, None}
use Rattle.dsn_lists.specs.declared.marks.Mark.{Mark}

-- the numbers, and this one behind them, where there is one
abbrev pub with_number : List ℕ → Option ℕ → List ℕ
with_number ids None = ids
with_number ids (Some n) = ids ++ n ∷ []

-- the numbers of these names, behind others; a name without a number is passed over
unfoldable pub numbers_by : (List ℕ → Option ℕ) → List ℕ → List Mark → List ℕ
numbers_by number ids [] = ids
numbers_by number ids (m ∷ ms) = numbers_by number (with_number ids (number m.name)) ms
