-- What pairs of classes state, by the names of the classes; in nanometres.
-- Models: clearances between two classes of the SPECCTRA reference. Cited by `need`
use Rattle.std.specs.Prelude.{ℕ, ◌==◌, ◌&&◌, ◌||◌, max, Option, Some, None, Bool, false, if◌then◌else◌, List, [], ◌∷◌, slice_get, filter, flat_map}
use Rattle.std.specs.Str.{bytes_eq}
use Rattle.board_rules.specs.declared.design.Kind.{Kind}
use Rattle.board_rules.specs.declared.design.What.TheVariants as whats
use Rattle.board_rules.specs.declared.design.Stated.{Stated}
use Rattle.board_rules.specs.declared.design.ClassRow.{ClassRow}
use Rattle.board_rules.specs.declared.design.PairRow.{PairRow}
use Rattle.board_rules.specs.declared.design.Parts.{Parts}
use Rattle.board_rules.specs.Classes.{or_else, value_of, typed_value, largest_in}

-- the name of a class, where there is one
abbrev pub name_in : Option ClassRow → Option (List ℕ)
name_in None = None
name_in (Some c) = Some c.name

-- the name of the class of a number, where it is there
abbrev pub name_of : Parts → ℕ → Option (List ℕ)
name_of p class = name_in (slice_get p.classes class)

-- both names are there, and they are the same
abbrev pub is_same_name : Option (List ℕ) → Option (List ℕ) → Bool
is_same_name (Some n) (Some m) = bytes_eq n m
is_same_name _ _ = false

-- a row is of these two names, in either order
abbrev pub is_named : Parts → Option (List ℕ) → Option (List ℕ) → PairRow → Bool
is_named p n m r = (is_same_name (name_of p r.a) n && is_same_name (name_of p r.b) m) || (is_same_name (name_of p r.a) m && is_same_name (name_of p r.b) n)

-- what is stated for two names, in the order of the rows
abbrev pub named_rows : Parts → Option (List ℕ) → Option (List ℕ) → List Stated
named_rows p n m = flat_map (λ (r : PairRow). r.clearances) (filter (is_named p n m) p.pairs)

-- what is stated for the names of two classes
abbrev pub pair_rows : Parts → ℕ → ℕ → List Stated
pair_rows p c d = named_rows p (name_of p c) (name_of p d)

-- what statements give two kinds: the pair's own value, that for one pad on one layer, then the untyped one
abbrev pub given_by : List Stated → Kind → Kind → Option ℕ
given_by rows k l = or_else (typed_value rows k l) (value_of whats.Untyped rows)

-- what is stated for two classes and these kinds
abbrev pub between : Parts → ℕ → ℕ → Kind → Kind → Option ℕ
between p c d k l = given_by (pair_rows p c d) k l

-- what is stated for two classes and these kinds; class 0 is in no pair
abbrev pub pair_value : Parts → ℕ → ℕ → Kind → Kind → Option ℕ
pair_value p c d k l = if c == 0 || d == 0 then None else between p c d k l

-- the largest value that is stated for the names of one of these rows
abbrev pub largest_paired : Parts → List PairRow → ℕ
largest_paired p [] = 0
largest_paired p (r ∷ rest) = max (largest_in (pair_rows p r.a r.b)) (largest_paired p rest)
