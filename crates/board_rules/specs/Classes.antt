-- What a class of nets states for widths, vias and clearances, in nanometres. Cited by `need`, `largest_clearance` and `static_why`
use Rattle.std.specs.Prelude.{ℕ, ◌&&◌, ◌||◌, Option, Some, None, Bool, true, false, not, if◌then◌else◌, max, List, [], ◌∷◌, slice_get, get_or, map, filter}
use Rattle.board_rules.specs.declared.design.Kind.{Kind}
use Rattle.board_rules.specs.declared.design.Kind.TheVariants as kinds
use Rattle.board_rules.specs.declared.design.What.{What}
use Rattle.board_rules.specs.declared.design.What.TheVariants as whats
use Rattle.board_rules.specs.declared.design.Stated.{Stated}
use Rattle.board_rules.specs.declared.design.ClassRow.{ClassRow}
use Rattle.board_rules.specs.declared.design.NetRow.{NetRow}
use Rattle.board_rules.specs.declared.design.Parts.{Parts}

-- two kinds are the same
abbrev pub same_kind : Kind → Kind → Bool
same_kind kinds.Wire kinds.Wire = true
same_kind kinds.Via kinds.Via = true
same_kind kinds.Pin kinds.Pin = true
same_kind kinds.Smd kinds.Smd = true
same_kind _ _ = false

-- two statements are of the same thing: two pairs of kinds in either order
abbrev pub same_what : What → What → Bool
same_what whats.Untyped whats.Untyped = true
same_what whats.DefaultSmd whats.DefaultSmd = true
same_what (whats.Pair a b) (whats.Pair c d) = (same_kind a c && same_kind b d) || (same_kind a d && same_kind b c)
same_what _ _ = false

-- the first of two that is there
abbrev pub or_else : Option ℕ → Option ℕ → Option ℕ
or_else (Some n) other = Some n
or_else None other = other

-- the value that the last statement of this thing gives
abbrev pub value_of : What → List Stated → Option ℕ
value_of what [] = None
value_of what (s ∷ rest) = or_else (value_of what rest) (if same_what s.what what then Some s.value else None)

-- exactly one of the two is a pad on one layer
abbrev pub is_one_smd : Kind → Kind → Bool
is_one_smd k l = (same_kind k kinds.Smd && not (same_kind l kinds.Smd)) || (same_kind l kinds.Smd && not (same_kind k kinds.Smd))

-- what a list of statements gives two kinds but for an untyped value: the pair's own value, then that for one pad on one
-- layer
abbrev pub typed_value : List Stated → Kind → Kind → Option ℕ
typed_value rows k l = or_else (value_of (whats.Pair k l) rows) (if is_one_smd k l then value_of whats.DefaultSmd rows else None)

-- the statements of a class; none where there is no such class
abbrev pub stated_in : Option ClassRow → List Stated
stated_in None = []
stated_in (Some c) = c.clearances

-- the untyped value that each of these classes states
abbrev pub untyped_in : List ClassRow → List (Option ℕ)
untyped_in classes = map (λ (c : ClassRow). value_of whats.Untyped c.clearances) classes

-- the untyped values that the classes of a design state, one place a class
abbrev pub untyped_of : Parts → List (Option ℕ)
untyped_of p = untyped_in p.classes

-- the untyped value of a class; none where it has none, or where there is no such class
abbrev pub untyped_at : List (Option ℕ) → ℕ → Option ℕ
untyped_at untyped class = get_or untyped class None

-- the width that a class states
abbrev pub width_in : Option ClassRow → Option ℕ
width_in None = None
width_in (Some c) = c.width

-- the padstacks that a class states
abbrev pub vias_in : Option ClassRow → Option (List ℕ)
vias_in None = None
vias_in (Some c) = c.vias

-- the class of a net; without a net it is class 0, the structure's rule
abbrev pub class_in : Option NetRow → ℕ
class_in None = 0
class_in (Some n) = n.class

-- the class of a net of these parts
abbrev pub class_of : Parts → Option ℕ → ℕ
class_of p None = 0
class_of p (Some net) = class_in (slice_get p.nets net)

-- the number that is there, or 0
abbrev pub or_zero : Option ℕ → ℕ
or_zero None = 0
or_zero (Some n) = n

-- what a class gives two kinds: what it states for them, then its untyped value
abbrev pub own_value : Parts → List (Option ℕ) → ℕ → Kind → Kind → Option ℕ
own_value p untyped class k l = or_else (typed_value (stated_in (slice_get p.classes class)) k l) (untyped_at untyped class)

-- what a class gives two kinds with these untyped values: its own statements, then the structure's, then 0
abbrev pub value_in : Parts → List (Option ℕ) → ℕ → Kind → Kind → ℕ
value_in p untyped class k l = or_zero (or_else (own_value p untyped class k l) (own_value p untyped 0 k l))

-- the least width of a net's wires: its class's, then the structure's, then 0
abbrev pub width_of : Parts → ℕ → ℕ
width_of p net = or_zero (or_else (width_in (slice_get p.classes (class_of p (Some net)))) (width_in (slice_get p.classes 0)))

-- the padstacks of a net's vias: its class's list, else the structure's, else none
abbrev pub list_of : Option (List ℕ) → Option (List ℕ) → List ℕ
list_of (Some own) other = own
list_of None (Some other) = other
list_of None None = []

-- the padstacks that the vias of a net may have
abbrev pub vias_of : Parts → ℕ → List ℕ
vias_of p net = list_of (vias_in (slice_get p.classes (class_of p (Some net)))) (vias_in (slice_get p.classes 0))

-- the largest of what the statements of a class give the things that some of them are of; 0 without any
abbrev pub largest_given : List Stated → List Stated → ℕ
largest_given rows [] = 0
largest_given rows (s ∷ rest) = max (or_zero (value_of s.what rows)) (largest_given rows rest)

-- the largest value that these statements state; one that a later one of the same thing replaces states nothing
abbrev pub largest_in : List Stated → ℕ
largest_in rows = largest_given rows rows

-- a statement is of more than all for which nothing closer is stated
abbrev pub is_typed : Stated → Bool
is_typed s = not (same_what s.what whats.Untyped)

-- the largest value that one of these classes states, but for the untyped ones
abbrev pub largest_typed : List ClassRow → ℕ
largest_typed [] = 0
largest_typed (c ∷ rest) = max (largest_in (filter is_typed c.clearances)) (largest_typed rest)

-- the largest of these rules
abbrev pub largest_rule : List (Option ℕ) → ℕ
largest_rule [] = 0
largest_rule (r ∷ rest) = max (or_zero r) (largest_rule rest)
