-- The names of clearance types.
-- Models: the clearance types of the SPECCTRA reference, for two kinds of items in either order.
use Rattle.std.specs.Prelude.{ℕ, Bool, false, List, [], ◌∷◌, ◌++◌, codes, filter}
use Rattle.board_rules.specs.declared.design.Kind.{Kind}
use Rattle.board_rules.specs.declared.design.Kind.TheVariants.{Wire, Via, Pin, Smd}
use Rattle.board_rules.specs.declared.design.What.{What}
use Rattle.board_rules.specs.declared.design.What.TheVariants.{Untyped, DefaultSmd, Pair}
use Rattle.dsn_lists.specs.Words.{same}

-- the name of a kind of item
abbrev pub kind_name : Kind → List ℕ
kind_name Wire = codes "wire"
kind_name Via = codes "via"
kind_name Pin = codes "pin"
kind_name Smd = codes "smd"

-- the word names this type: `default_smd`, or two kinds with `_` between them
abbrev pub is_named : List ℕ → What → Bool
is_named text Untyped = false
is_named text DefaultSmd = same text (codes "default_smd")
is_named text (Pair a b) = same text (kind_name a ++ codes "_" ++ kind_name b)

-- the types whose first kind is this one
abbrev pub types_from : Kind → List What
types_from a = Pair a Wire ∷ Pair a Via ∷ Pair a Pin ∷ Pair a Smd ∷ []

-- the types that have names
abbrev pub named_types : List What
named_types = DefaultSmd ∷ (types_from Wire ++ types_from Via ++ types_from Pin ++ types_from Smd)

-- the types that a word names, which is one or none
abbrev pub types_named : List ℕ → List What
types_named text = filter (is_named text) named_types
