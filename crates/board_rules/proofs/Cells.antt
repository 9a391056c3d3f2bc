-- What a table has for two kinds.
use Rattle.std.proofs.Common.{◌≡◌, ℕ, zero, suc, List, [], ◌∷◌, Bool, true, false, refl}
use Rattle.std.specs.Prelude.{Option, None, get_or, slice_get, if◌then◌else◌}
use Rattle.board_rules.specs.declared.design.Kind.{Kind}
use Rattle.board_rules.specs.declared.design.Kind.TheVariants as kinds
use Rattle.board_rules.specs.declared.design.Stated.{Stated}
use Rattle.board_rules.specs.declared.design.ClassRow.{ClassRow}
use Rattle.board_rules.specs.Classes.{typed_value, stated_in, is_one_smd}
use Rattle.board_rules.specs.Tables.{kind_table, place_of, cell_in, tables_of}

cell_is : (rows : List Stated) (k l : Kind) → get_or (kind_table rows) (place_of k l) None ≡ typed_value rows k l
cell_is rows kinds.Wire kinds.Wire = refl
cell_is rows kinds.Wire kinds.Via = refl
cell_is rows kinds.Wire kinds.Pin = refl
cell_is rows kinds.Wire kinds.Smd = refl
cell_is rows kinds.Via kinds.Wire = refl
cell_is rows kinds.Via kinds.Via = refl
cell_is rows kinds.Via kinds.Pin = refl
cell_is rows kinds.Via kinds.Smd = refl
cell_is rows kinds.Pin kinds.Wire = refl
cell_is rows kinds.Pin kinds.Via = refl
cell_is rows kinds.Pin kinds.Pin = refl
cell_is rows kinds.Pin kinds.Smd = refl
cell_is rows kinds.Smd kinds.Wire = refl
cell_is rows kinds.Smd kinds.Via = refl
cell_is rows kinds.Smd kinds.Pin = refl
cell_is rows kinds.Smd kinds.Smd = refl

abbrev nothing : Option ℕ
nothing = None

none_if : (b : Bool) → nothing ≡ (if b then nothing else nothing)
none_if true = refl
none_if false = refl

-- the tables of classes have what the classes state
pub cell_of : (classes : List ClassRow) (class : ℕ) (k l : Kind) → cell_in (slice_get (tables_of classes) class) k l ≡ typed_value (stated_in (slice_get classes class)) k l
cell_of [] class k l = none_if (is_one_smd k l)
cell_of (c ∷ rest) zero k l = cell_is c.clearances k l
cell_of (c ∷ rest) (suc class) k l = cell_of rest class k l
