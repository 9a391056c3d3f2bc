-- What classes and nets a design has, and which name of a padstack is unknown.
-- Models: the use_via, circuit, class and net descriptors of the SPECCTRA reference.
use Rattle.std.specs.Prelude.{◌≡◌, ℕ, suc, ◌≤◌, ◌⊎◌, true, false, List, [], ◌∷◌, ◌++◌, map, Option, Some, None, option_to_list, if◌then◌else◌}
use Rattle.std.specs.List.{flat_map, AllByRecursion}
use Rattle.std.specs.Option.{option_map}
use Rattle.std.specs.Str.{bytes_eq}
use Rattle.board_rules.specs.declared.design.ClassRow.{ClassRow}
use Rattle.board_rules.specs.declared.design.NetRow.{NetRow}
use Rattle.board_rules.specs.declared.design.PairRow.{PairRow}
use Rattle.board_rules.specs.declared.design.Parts.{Parts}
use Rattle.board_rules.specs.declared.design.Stated.{Stated}
use Rattle.dsn_lists.specs.declared.faults.DesignFault.{DesignFault}
use Rattle.dsn_lists.specs.declared.faults.DesignKind.TheVariants as kind
use Rattle.dsn_lists.specs.declared.marks.Mark.{Mark}
use Rattle.dsn_lists.specs.declared.rules.Rule.{Rule}
use Rattle.dsn_lists.specs.Names.{is_among, place_of}
use Rattle.dsn_lists.specs.Lists.{last_of}
use Rattle.dsn_structure.specs.declared.structure.Structure.{Structure}
use Rattle.dsn_network.specs.declared.classes.Class.{Class}
use Rattle.dsn_network.specs.declared.pairs.ClassPairs.{ClassPairs}
use Rattle.dsn_reader.specs.Assembly.{Gathered, item_of}

-- ---- names of padstacks

-- the names in one list of vias after another
abbrev pub joined_lists : List (List Mark) → List Mark
joined_lists lists = flat_map (λ ms. ms) lists

-- all names in lists of vias: those of the structure, and those of the classes
abbrev pub via_names : Structure → List Class → List Mark
via_names s classes = joined_lists s.vias ++ flat_map (λ (c : Class). joined_lists c.vias) classes

-- each of the names is a padstack's
abbrev pub AreKnown : List (List ℕ) → List Mark → Type 0
AreKnown names ms = AllByRecursion (λ (m : Mark). is_among m.name names ≡ true) ms

-- one of the names is no padstack's, and stands at this byte
abbrev pub UnknownAt : List (List ℕ) → List Mark → ℕ → Type 0
UnknownAt names [] at = ⊥
UnknownAt names (m ∷ ms) at = ((is_among m.name names ≡ false) × (m.at ≡ at)) ⊎ UnknownAt names ms at

-- the first byte in the text at which a name stands that is no padstack's
pub record IsLeastUnknown (names : List (List ℕ)) (ms : List Mark) (at : ℕ) : Type 0 where
  pub unknown : UnknownAt names ms at
  pub least : (b : ℕ) → UnknownAt names ms b → at ≤ b

-- the fault of lists of vias: the name that stands first in the text of those that are no padstack's
abbrev pub ViaNameFault : List (List ℕ) → List Mark → DesignFault → Type 0
ViaNameFault names ms e = (e.kind ≡ kind.Name) × IsLeastUnknown names ms e.at

-- ---- classes

-- the numbers of the padstacks of these names
abbrev pub numbers_by_place : List (List ℕ) → List Mark → List ℕ
numbers_by_place names ms = flat_map (λ (m : Mark). option_to_list (place_of names m.name)) ms

-- a class with the last of its lists of vias, by the numbers of their padstacks; none where it has no list
abbrev pub row_of : List (List ℕ) → List ℕ → List (List Mark) → Rule → ClassRow
row_of names name lists rule = record { name = name; width = rule.width; vias = option_map (numbers_by_place names) (last_of None (map Some lists)); clearances = rule.stated }

-- the row of a class
abbrev pub row_of_class : List (List ℕ) → Class → ClassRow
row_of_class names c = row_of names c.name c.vias c.rule

-- the classes of a design: first the structure's rule, which has no name, and then those of the network in order
abbrev pub rows_of_classes : List (List ℕ) → Structure → List Class → List ClassRow
rows_of_classes names s classes = row_of names [] s.vias s.rule ∷ map (row_of_class names) classes

-- ---- nets

-- each net with its class, which is 0 for the nets beyond those that have one
abbrev pub rows_of_nets : List (List ℕ) → List ℕ → List NetRow
rows_of_nets [] classes = []
rows_of_nets (name ∷ names) [] = record { name = name; class = 0 } ∷ rows_of_nets names []
rows_of_nets (name ∷ names) (class ∷ classes) = record { name = name; class = class } ∷ rows_of_nets names classes

-- ---- pairs of classes

-- the number of the first of these classes that has the name, where the first of them has the number k
abbrev pub first_named : ℕ → List Class → List ℕ → Option ℕ
first_named k [] name = None
first_named k (c ∷ classes) name = if bytes_eq name c.name then Some k else first_named (suc k) classes name

-- the numbers of the classes of these names, each the first of its name; a name that is no class's is passed over
abbrev pub numbers_of_classes : List Class → List Mark → List ℕ
numbers_of_classes classes ms = flat_map (λ (m : Mark). option_to_list (first_named 1 classes m.name)) ms

-- each two of these classes by their places, the one that stands first named first, with what is stated for them
abbrev pub each_two : List Stated → List ℕ → List PairRow
each_two stated [] = []
each_two stated (a ∷ more) = map (λ (b : ℕ). record { a = a; b = b; clearances = stated }) more ++ each_two stated more

-- The pairs of classes of a design, list by list in the order of the text. A row stands for the pair of its names, so of
-- classes of one name the first alone has rows.
abbrev pub rows_of_pairs : List Class → List ClassPairs → List PairRow
rows_of_pairs classes lists = flat_map (λ (p : ClassPairs). each_two p.stated (numbers_of_classes classes p.names)) lists

-- ---- the design

-- The design of what its sections state. Its items are the structure's keepouts, then the pads and keepouts of the
-- components, each pad with the net of its pin, then the wiring.
abbrev pub laid_out : Gathered → Parts
laid_out g = record {
  name = g.name;
  layers = g.structure.layers;
  stacks = g.library.stacks;
  nets = rows_of_nets g.nets g.numbers;
  classes = rows_of_classes g.library.names g.structure g.classes;
  pairs = rows_of_pairs g.classes g.between;
  outline = g.structure.outline;
  items = g.structure.keeps ++ (map (item_of g.pins) g.placement.parts ++ g.wiring.items);
}
