-- The pairs of classes of a design, made one by one.
use Rattle.std.specs.Prelude.{ℕ, suc, List, [], ◌∷◌, ◌++◌, slice_get, Option, option_and_then, if◌then◌else◌}
use Rattle.board_rules.specs.declared.design.PairRow.{PairRow}
use Rattle.board_rules.specs.declared.design.Stated.{Stated}
use Rattle.dsn_lists.specs.Names.{is_among, place_of}
use Rattle.dsn_network.specs.declared.classes.Class.{Class}
use Rattle.dsn_network.specs.declared.pairs.ClassPairs.{ClassPairs}
use Rattle.dsn_reader.specs.declared.pairs.ClassNames.{ClassNames}
use Rattle.dsn_reader.specs.Numbering.{numbers_by}

-- ---- the numbers of classes by their names

abbrev pub no_class_names : ClassNames
no_class_names = record { names = []; numbers = [] }

-- the names and numbers, and this one, unless a class of the name was met
abbrev pub with_class_name : ClassNames → ℕ → List ℕ → ClassNames
with_class_name known k name = if is_among name known.names then known else record { names = known.names ++ name ∷ []; numbers = known.numbers ++ k ∷ [] }

-- the same behind all classes from the k-th on
unfoldable pub names_met : ClassNames → ℕ → List Class → ClassNames
names_met known k [] = known
names_met known k (c ∷ classes) = names_met (with_class_name known k c.name) (suc k) classes

-- the number of the class of this name
abbrev pub number_in : ClassNames → List ℕ → Option ℕ
number_in known name = option_and_then (λ place. slice_get known.numbers place) (place_of known.names name)

-- ---- rows

-- the pairs of a class with these, behind others
unfoldable pub pairs_behind : List PairRow → ℕ → List Stated → List ℕ → List PairRow
pairs_behind rows a stated [] = rows
pairs_behind rows a stated (b ∷ bs) = pairs_behind (rows ++ record { a = a; b = b; clearances = stated } ∷ []) a stated bs

-- the pairs of each two of these classes, behind others
unfoldable pub pairs_among : List PairRow → List Stated → List ℕ → List PairRow
pairs_among rows stated [] = rows
pairs_among rows stated (a ∷ more) = pairs_among (pairs_behind rows a stated more) stated more

-- the pairs that lists between classes state, behind others
unfoldable pub pairs_of_lists : ClassNames → List PairRow → List ClassPairs → List PairRow
pairs_of_lists known rows [] = rows
pairs_of_lists known rows (p ∷ lists) = pairs_of_lists known (pairs_among rows p.stated (numbers_by (number_in known) [] p.names)) lists

-- the pairs that these lists state between these classes
abbrev pub all_pairs : List Class → List ClassPairs → List PairRow
all_pairs classes lists = pairs_of_lists (names_met no_class_names 1 classes) [] lists
