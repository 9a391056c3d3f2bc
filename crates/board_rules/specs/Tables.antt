-- Tables of what each class states for two kinds, for a look-up.
-- Cited by `Design`, which keeps them
use Rattle.std.specs.Prelude.{ℕ, ◌+◌, ◌*◌, Option, Some, None, get_or, List, [], ◌∷◌, map}
use Rattle.board_rules.specs.declared.design.Kind.{Kind}
use Rattle.board_rules.specs.declared.design.Kind.TheVariants as kinds
use Rattle.board_rules.specs.declared.design.Stated.{Stated}
use Rattle.board_rules.specs.declared.design.ClassRow.{ClassRow}
use Rattle.board_rules.specs.Classes.{typed_value}

-- the number of a kind
abbrev pub code_of : Kind → ℕ
code_of kinds.Wire = 0
code_of kinds.Via = 1
code_of kinds.Pin = 2
code_of kinds.Smd = 3

-- the place of two kinds in a table
abbrev pub place_of : Kind → Kind → ℕ
place_of k l = code_of k * 4 + code_of l

-- what these statements give each two kinds, in the order of their places
abbrev pub kind_table : List Stated → List (Option ℕ)
kind_table rows =
    typed_value rows kinds.Wire kinds.Wire ∷ typed_value rows kinds.Wire kinds.Via ∷ typed_value rows kinds.Wire kinds.Pin ∷ typed_value rows kinds.Wire kinds.Smd ∷
    typed_value rows kinds.Via kinds.Wire ∷ typed_value rows kinds.Via kinds.Via ∷ typed_value rows kinds.Via kinds.Pin ∷ typed_value rows kinds.Via kinds.Smd ∷
    typed_value rows kinds.Pin kinds.Wire ∷ typed_value rows kinds.Pin kinds.Via ∷ typed_value rows kinds.Pin kinds.Pin ∷ typed_value rows kinds.Pin kinds.Smd ∷
    typed_value rows kinds.Smd kinds.Wire ∷ typed_value rows kinds.Smd kinds.Via ∷ typed_value rows kinds.Smd kinds.Pin ∷ typed_value rows kinds.Smd kinds.Smd ∷ []

-- what a table has for two kinds; none where there is no table
abbrev pub cell_in : Option (List (Option ℕ)) → Kind → Kind → Option ℕ
cell_in None k l = None
cell_in (Some table) k l = get_or table (place_of k l) None

-- a table for each class
abbrev pub tables_of : List ClassRow → List (List (Option ℕ))
tables_of classes = map (λ (c : ClassRow). kind_table c.clearances) classes
