-- Tables of what each pair of classes states, for a look-up.
-- Cited by `Design`, which keeps them
use Rattle.std.specs.Prelude.{ℕ, ◌==◌, ◌&&◌, min, max, Option, Some, None, Bool, if◌then◌else◌, List, [], ◌∷◌, slice_get}
use Rattle.std.specs.Map.{lookup}
use Rattle.indexmap.specs.IndexMap.{insert_entry}
use Rattle.board_rules.specs.declared.design.Kind.{Kind}
use Rattle.board_rules.specs.declared.design.Kind.TheVariants as kinds
use Rattle.board_rules.specs.declared.design.What.{What}
use Rattle.board_rules.specs.declared.design.What.TheVariants as whats
use Rattle.board_rules.specs.declared.design.Stated.{Stated}
use Rattle.board_rules.specs.declared.design.PairRow.{PairRow}
use Rattle.board_rules.specs.declared.design.Parts.{Parts}
use Rattle.board_rules.specs.declared.pair_tables.KindCells.{KindCells}
use Rattle.board_rules.specs.declared.pair_tables.PairTable.{PairTable}
use Rattle.board_rules.specs.Classes.{or_else, or_zero, value_of, is_one_smd}
use Rattle.board_rules.specs.Numbers.{numbers_of}

-- what is given a kind and each other one
abbrev pub cells_by : (What → Option ℕ) → Kind → KindCells
cells_by f a = record { wire = f (whats.Pair a kinds.Wire); via = f (whats.Pair a kinds.Via); pin = f (whats.Pair a kinds.Pin); smd = f (whats.Pair a kinds.Smd) }

-- what is given each thing
abbrev pub table_by : (What → Option ℕ) → PairTable
table_by f = record {
  wire = cells_by f kinds.Wire;
  via = cells_by f kinds.Via;
  pin = cells_by f kinds.Pin;
  smd = cells_by f kinds.Smd;
  default_smd = f whats.DefaultSmd;
  untyped = f whats.Untyped;
}

-- what statements give each thing
abbrev pub table_of : List Stated → PairTable
table_of rows = table_by (λ what. value_of what rows)

-- what cells have for a kind
abbrev pub cell_of : KindCells → Kind → Option ℕ
cell_of cells kinds.Wire = cells.wire
cell_of cells kinds.Via = cells.via
cell_of cells kinds.Pin = cells.pin
cell_of cells kinds.Smd = cells.smd

-- what a table has for a kind and each other one
abbrev pub cells_of : PairTable → Kind → KindCells
cells_of table kinds.Wire = table.wire
cells_of table kinds.Via = table.via
cells_of table kinds.Pin = table.pin
cells_of table kinds.Smd = table.smd

-- what a table gives two kinds
abbrev pub value_by : PairTable → Kind → Kind → Option ℕ
value_by table k l = or_else (or_else (cell_of (cells_of table k) l) (if is_one_smd k l then table.default_smd else None)) table.untyped

-- the largest value of cells
abbrev pub most_in : KindCells → ℕ
most_in cells = max (max (or_zero cells.wire) (or_zero cells.via)) (max (or_zero cells.pin) (or_zero cells.smd))

-- the largest value of a table
abbrev pub most_of : PairTable → ℕ
most_of table =
    max (max (or_zero table.untyped) (or_zero table.default_smd)) (max (max (most_in table.wire) (most_in table.via)) (max (most_in table.pin) (most_in table.smd)))

-- two numbers of names, the lower one first
abbrev pub key_in : Option ℕ → Option ℕ → Option (ℕ × ℕ)
key_in (Some n) (Some m) = Some (min n m, max n m)
key_in _ _ = None

-- the numbers of the names of two classes, the lower one first
abbrev pub key_of : List ℕ → ℕ → ℕ → Option (ℕ × ℕ)
key_of numbers c d = key_in (slice_get numbers c) (slice_get numbers d)

-- two keys are the same
abbrev pub is_same_key : ℕ × ℕ → ℕ × ℕ → Bool
is_same_key j k = (j.0 == k.0) && (j.1 == k.1)

-- what cells have after later statements for a kind and each other one
abbrev pub later_cells : List Stated → Kind → KindCells → KindCells
later_cells rows a cells = record {
  wire = or_else (value_of (whats.Pair a kinds.Wire) rows) cells.wire;
  via = or_else (value_of (whats.Pair a kinds.Via) rows) cells.via;
  pin = or_else (value_of (whats.Pair a kinds.Pin) rows) cells.pin;
  smd = or_else (value_of (whats.Pair a kinds.Smd) rows) cells.smd;
}

-- what a table has after later statements
abbrev pub later_table : List Stated → PairTable → PairTable
later_table rows table = record {
  wire = later_cells rows kinds.Wire table.wire;
  via = later_cells rows kinds.Via table.via;
  pin = later_cells rows kinds.Pin table.pin;
  smd = later_cells rows kinds.Smd table.smd;
  default_smd = or_else (value_of whats.DefaultSmd rows) table.default_smd;
  untyped = or_else (value_of whats.Untyped rows) table.untyped;
}

-- the table that is there, else an empty one
abbrev pub or_empty : Option PairTable → PairTable
or_empty (Some table) = table
or_empty None = table_of []

-- the table of a key, else an empty one
abbrev pub table_at : List ((ℕ × ℕ) × PairTable) → Option (ℕ × ℕ) → PairTable
table_at entries None = table_of []
table_at entries (Some key) = or_empty (lookup (is_same_key key) entries)

-- the tables after one more row, whose key this is
abbrev pub put_row : Option (ℕ × ℕ) → List Stated → List ((ℕ × ℕ) × PairTable) → List ((ℕ × ℕ) × PairTable)
put_row None rows entries = entries
put_row (Some key) rows entries = insert_entry is_same_key entries key (later_table rows (table_at entries (Some key)))

-- the tables after these rows
abbrev pub put_rows : List ℕ → List PairRow → List ((ℕ × ℕ) × PairTable) → List ((ℕ × ℕ) × PairTable)
put_rows numbers [] entries = entries
put_rows numbers (r ∷ rest) entries = put_rows numbers rest (put_row (key_of numbers r.a r.b) r.clearances entries)

-- the number of each class's name, and the table of each two names that a row is of
abbrev pub pair_tables_of : Parts → List ℕ × List ((ℕ × ℕ) × PairTable)
pair_tables_of p = (numbers_of p.classes, put_rows (numbers_of p.classes) p.pairs [])
