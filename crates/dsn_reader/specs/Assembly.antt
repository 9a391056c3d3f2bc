-- The design of what its sections state.
use Rattle.std.specs.Prelude.{ℕ, zero, suc, ◌-◌, nat_lt, List, [], ◌∷◌, ◌++◌, replicate, slice_get, length, Option, Some, None, Ok, if◌then◌else◌}
use Rattle.std.specs.Global.{Vec}
use Rattle.sexp_text.specs.Forest.{Forest}
use Rattle.board_items.specs.declared.items.Item.{Item}
use Rattle.board_items.specs.declared.items.Item.TheVariants as items
use Rattle.board_rules.specs.declared.design.ClassRow.{ClassRow}
use Rattle.board_rules.specs.declared.design.NetRow.{NetRow}
use Rattle.board_rules.specs.declared.design.Parts.{Parts}
use Rattle.dsn_lists.specs.declared.faults.DesignKind.TheVariants as kind
use Rattle.dsn_lists.specs.declared.marks.Mark.{Mark}
use Rattle.dsn_lists.specs.declared.rules.Rule.{Rule}
use Rattle.dsn_lists.specs.Results.{Read, ◌>>=◌, wrong}
use Rattle.dsn_lists.specs.Names.{is_among, place_of}
use Rattle.dsn_lists.specs.Pcbs.{design_of}
use Rattle.dsn_structure.specs.declared.structure.Structure.{Structure}
use Rattle.dsn_structure.specs.Structures.{structure_of}
use Rattle.dsn_library.specs.declared.library.Library.{Library}
use Rattle.dsn_network.specs.declared.classes.Class.{Class}
use Rattle.dsn_network.specs.declared.pairs.ClassPairs.{ClassPairs}
use Rattle.dsn_network.specs.declared.network.Network.{Network}
use Rattle.dsn_library.specs.Libraries.{library_of}
use Rattle.dsn_placement.specs.Components.{placement_of}
use Rattle.dsn_placement.specs.declared.placement.PlacedPart.{PlacedPart}
use Rattle.dsn_placement.specs.declared.placement.PlacedPart.TheVariants as placed
use Rattle.dsn_placement.specs.declared.placement.Placement.{Placement}
use Rattle.dsn_network.specs.References.{net_at}
use Rattle.dsn_network.specs.Networks.{network_of, classed}
use Rattle.dsn_reader.specs.declared.reader.Sections.{Sections}
use Rattle.dsn_reader.specs.declared.reader.Laid.{Laid}
use Rattle.dsn_reader.specs.declared.wiring.Wiring.{Wiring}
use Rattle.dsn_reader.specs.Wirings.{wiring_of}
use Rattle.dsn_reader.specs.Numbering.{numbers_by}
use Rattle.dsn_reader.specs.PairAssembly.{all_pairs}

-- ---- the padstacks that lists of vias name

-- the lesser of two bytes, where there is one
abbrev pub lesser : Option ℕ → ℕ → Option ℕ
lesser None at = Some at
lesser (Some least) at = if nat_lt at least then Some at else Some least

-- the byte of the least name that no padstack has, of that told before and of one more
abbrev pub least_of : List (List ℕ) → Option ℕ → Mark → Option ℕ
least_of names least m = if is_among m.name names then least else lesser least m.at

unfoldable pub least_unknown : List (List ℕ) → Option ℕ → List Mark → Option ℕ
least_unknown names least [] = least
least_unknown names least (m ∷ ms) = least_unknown names (least_of names least m) ms

unfoldable pub least_in_lists : List (List ℕ) → Option ℕ → List (List Mark) → Option ℕ
least_in_lists names least [] = least
least_in_lists names least (ms ∷ lists) = least_in_lists names (least_unknown names least ms) lists

unfoldable pub least_in_classes : List (List ℕ) → Option ℕ → List Class → Option ℕ
least_in_classes names least [] = least
least_in_classes names least (c ∷ classes) = least_in_classes names (least_in_lists names least c.vias) classes

abbrev pub unless_unknown : Option ℕ → Read (Unit {0})
unless_unknown None = Ok tt
unless_unknown (Some at) = wrong kind.Name at

-- each name in a list of vias is a padstack's; else the first in the text that isn't is told
unfoldable pub known_vias : List (List ℕ) → Structure → List Class → Read (Unit {0})
known_vias names s classes = unless_unknown (least_in_classes names (least_in_lists names None s.vias) classes)

-- ---- classes and nets

-- the numbers of the padstacks of these names
abbrev pub numbers_of : List (List ℕ) → List Mark → List ℕ
numbers_of names ms = numbers_by (place_of names) [] ms

abbrev pub held_vias : List (List ℕ) → Option (List Mark) → Option (List ℕ)
held_vias names None = None
held_vias names (Some ms) = Some (numbers_of names ms)

-- the numbers of the list of vias that holds: the last one
unfoldable pub last_vias : List (List ℕ) → List (List Mark) → Option (List ℕ)
last_vias names lists = held_vias names (slice_get lists (length lists - 1))

abbrev pub class_row : List (List ℕ) → List ℕ → List (List Mark) → Rule → ClassRow
class_row names name vias rule = record { name = name; width = rule.width; vias = last_vias names vias; clearances = rule.stated }

-- the rows of the classes, behind others
unfoldable pub class_rows : List (List ℕ) → List ClassRow → List Class → List ClassRow
class_rows names rows [] = rows
class_rows names rows (c ∷ classes) = class_rows names (rows ++ class_row names c.name c.vias c.rule ∷ []) classes

-- the rows of the structure's rule, which is class 0, and of the classes
abbrev pub all_classes : List (List ℕ) → Structure → List Class → List ClassRow
all_classes names s classes = class_rows names (class_row names [] s.vias s.rule ∷ []) classes

abbrev pub net_row : List ℕ → ℕ → NetRow
net_row name class = record { name = name; class = class }

-- the row of a net with its class, which is 0 where none is told
abbrev pub row_at : Option (List ℕ) → Option ℕ → NetRow
row_at None class = net_row [] 0
row_at (Some name) None = net_row name 0
row_at (Some name) (Some class) = net_row name class

-- the rows of the first nets, so many
unfoldable pub net_rows : ℕ → List (List ℕ) → List ℕ → List NetRow
net_rows zero names cs = []
net_rows (suc n) names cs = net_rows n names cs ++ row_at (slice_get names n) (slice_get cs n) ∷ []

-- the classes of the nets of the network
abbrev pub classes_of : Network → List ℕ
classes_of n = classed n.nets 1 (replicate (length n.nets) 0) n.classes

-- ---- items

-- the pad with the net of its pin, or the keepout
abbrev pub item_of : List ((ℕ × ℕ) × ℕ) → PlacedPart → Item
item_of pins (placed.Pad component pin place ss) = items.Pad (net_at pins (component, pin)) ss
item_of pins (placed.Keep k ss) = items.Keep k ss

-- the pads and keepouts of components, behind others
unfoldable pub with_placed : List ((ℕ × ℕ) × ℕ) → List Item → List PlacedPart → List Item
with_placed pins is [] = is
with_placed pins is (x ∷ xs) = with_placed pins (is ++ item_of pins x ∷ []) xs

-- ---- the design

-- what the sections of a design state: its classes, what is stated between them, the class of each net of the network, and
-- all nets
pub record Gathered : Type 0 where
  pub name : List ℕ
  pub structure : Structure
  pub library : Library
  pub placement : Placement
  pub classes : List Class
  pub between : List ClassPairs
  pub pins : List ((ℕ × ℕ) × ℕ)
  pub numbers : List ℕ
  pub nets : List (List ℕ)
  pub wiring : Wiring

abbrev pub gathered : Sections → Gathered
gathered s = record {
  name = s.title.name;
  structure = s.structure;
  library = s.library;
  placement = s.placement;
  classes = s.network.classes;
  between = s.network.pairs;
  pins = s.network.pins;
  numbers = s.numbers.items;
  nets = s.network.nets;
  wiring = s.wiring;
}

-- the rows of a design that are copies of what its sections state
abbrev pub rows_of : Gathered → Laid
rows_of g = record {
  layers = g.structure.layers;
  nets = net_rows (length g.nets) g.nets g.numbers;
  classes = all_classes g.library.names g.structure g.classes;
  pairs = all_pairs g.classes g.between;
}

-- the design with these rows and the items of its sections
abbrev pub with_rows : Gathered → Laid → Parts
with_rows g x = record {
  name = g.name;
  layers = x.layers;
  stacks = g.library.stacks;
  nets = x.nets;
  classes = x.classes;
  pairs = x.pairs;
  outline = g.structure.outline;
  items = with_placed g.pins g.structure.keeps g.placement.parts ++ g.wiring.items;
}

abbrev pub assembled : Gathered → Parts
assembled g = with_rows g (rows_of g)

-- the nets, the class of each net of the network, and the wiring
pub record Wired : Type 0 where
  pub nets : List (List ℕ)
  pub numbers : List ℕ
  pub wiring : Wiring

abbrev pub wired : List (List ℕ) → Vec ℕ × Wiring → Wired
wired nets x = record { nets = nets; numbers = x.0.items; wiring = x.1 }

-- what the wiring states, where each name in a list of vias is a padstack's
unfoldable pub wired_of : Forest → Structure → Library → Network → Read Wired
wired_of f s l n = do
  w ← wiring_of f s.layers l n.nets n.quota
  _ ← known_vias l.names s n.classes
  Ok (record { nets = w.nets; numbers = classes_of n; wiring = w.it })

-- what all sections state, by the structure and the library
unfoldable pub behind_library : Forest → List ℕ → Structure → Library → Read Gathered
behind_library f name s l = do
  p ← placement_of f s l
  n ← network_of f p l
  w ← wired_of f s l n
  Ok (record { name = name; structure = s; library = l; placement = p; classes = n.classes; between = n.pairs; pins = n.pins; numbers = w.numbers; nets = w.nets; wiring = w.wiring })

-- what the sections of a design state, or the first fault
unfoldable pub sections_of : Forest → Read Gathered
sections_of f = do
  t ← design_of f
  s ← structure_of f
  l ← library_of f s.layers
  behind_library f t.name s l

-- the design that the lists and words of a text state, or the first fault
unfoldable pub parts_of : Forest → Read Parts
parts_of f = sections_of f >>= λ g. Ok (assembled g)
