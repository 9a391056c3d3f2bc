-- What a network section stands for, said of its whole lists, and what is wrong with one that stands for nothing.
-- Models: the network descriptor of the SPECCTRA reference.
use Rattle.std.specs.Prelude.{◌≡◌, ℕ, ◌≤◌, ◌⊎◌, List, length}
use Rattle.row_lists.specs.Limits.{net_limit}
use Rattle.sexp_text.specs.Forest.{Forest}
use Rattle.sexp_text.specs.declared.units.Unit.{Unit as LengthUnit}
use Rattle.dsn_lists.specs.declared.faults.DesignFault.{DesignFault}
use Rattle.dsn_lists.specs.declared.faults.DesignKind.TheVariants as kind
use Rattle.dsn_lists.specs.declared.faults.ReadWhy.{ReadWhy}
use Rattle.dsn_lists.specs.declared.faults.ReadWhy.TheVariants.{Fault, Memory}
use Rattle.dsn_lists.specs.declared.pcb.Section.TheVariants as sections
use Rattle.dsn_lists.specs.declared.pcb.Title.{Title}
use Rattle.dsn_lists.specs.Words.{Heading, head_of}
use Rattle.dsn_lists.specs.Pcbs.{Spot, section_in}
use Rattle.dsn_lists.specs.Lists.{collect, Every, AreFresh, told, IsFirst}
use Rattle.dsn_lists.specs.Measures.{UnitListFault, governing_unit}
use Rattle.dsn_lists.specs.Titles.{IsTitle, TitleFault}
use Rattle.dsn_network.specs.declared.network.Network.{Network}
use Rattle.dsn_network.specs.declared.network.NetworkWord.{NetworkWord}
use Rattle.dsn_network.specs.declared.network.NetworkWord.TheVariants as words
use Rattle.dsn_network.specs.Networks.{network_word}
use Rattle.dsn_library.specs.declared.library.Library.{Library}
use Rattle.dsn_placement.specs.declared.placement.Placement.{Placement}
use Rattle.dsn_network.specs.NamedPins.{ArePins}
use Rattle.dsn_network.specs.NetworkParts.{IsNetworkList, nets_in, references, classes_in, pairs_in, AreEach}
use Rattle.dsn_network.specs.NetLists.{NetFault}
use Rattle.dsn_network.specs.ClassLists.{IsClass, ClassFault}
use Rattle.dsn_network.specs.ClassPairLists.{IsPairs, PairsFault}

-- ---- the section

-- Lists of the section, with lengths in this unit, and what they stand for. Each is as its keyword wants it. The nets are
-- those named, in order, each once and at most 100,000. The pins are those that the references name, each in one net. The
-- classes, and the lists between classes, are those that stand there, in order. The quota for items and points is the
-- placement's.
pub record IsSection (u : LengthUnit) (p : Placement) (l : Library) (f : Forest) (n : Network) : Type 0 where
  pub formed : Every (IsNetworkList u) f
  pub nets : n.nets ≡ collect nets_in f
  pub fresh : AreFresh n.nets
  pub few : length n.nets ≤ net_limit
  pub pins : ArePins p l (references f) n.pins
  pub classes : AreEach (IsClass u) (collect classes_in f) n.classes
  pub pairs : AreEach (IsPairs u) (collect pairs_in f) n.pairs
  pub quota : n.quota ≡ p.quota

-- a section in a design of this unit, which a `unit` list in the section replaces
abbrev pub IsNetwork : LengthUnit → Placement → Library → Forest → Network → Type 0
IsNetwork u p l f n = IsSection (governing_unit u f) p l f n

-- ---- the first fault

-- the lists stand for something
abbrev pub Stand : LengthUnit → Placement → Library → Forest → Type 0
Stand u p l f = (n : Network) × IsSection u p l f n

-- what is wrong with a list that begins at this byte behind nets of these names with these references, by its
-- keyword
abbrev pub OfNetworkFault : LengthUnit → Placement → Library → List (List ℕ) → List (List ℕ × ℕ) → ℕ → Heading → NetworkWord → DesignFault → Type 0
OfNetworkFault u p l names earlier at h words.Net e = NetFault p l names earlier at h.args e
OfNetworkFault u p l names earlier at h words.Class e = ClassFault u at h.args e
OfNetworkFault u p l names earlier at h words.Pairs e = PairsFault u at h.args e
OfNetworkFault u p l names earlier at h words.Unit e = UnitListFault at h.args e
OfNetworkFault u p l names earlier at h words.Resolution e = e ≡ told kind.Unit h.at
OfNetworkFault u p l names earlier at h words.Other e = ⊥

-- the fault of a list of the section, behind others
abbrev pub NetworkListFault : LengthUnit → Placement → Library → Forest → ℕ → Forest → DesignFault → Type 0
NetworkListFault u p l before at inside e = OfNetworkFault u p l (collect nets_in before) (references before) at (head_of inside) (network_word (head_of inside).text) e

-- the first fault of a section in a design of this unit
abbrev pub IsFirstFault : LengthUnit → Placement → Library → Forest → DesignFault → Type 0
IsFirstFault u p l f e = IsFirst (Stand (governing_unit u f) p l) (NetworkListFault (governing_unit u f) p l) f e

-- ---- the network of a design with this placement and library

-- the list `network` of a design, which is empty where there is none
abbrev pub section : Forest → Spot
section f = section_in sections.Network f

-- the design is one with this network
abbrev pub HasNetwork : Forest → Placement → Library → Network → Type 0
HasNetwork f p l n = (t : Title) × IsTitle f t × IsNetwork t.unit p l (section f).args n

-- the first fault of a design at its network: that of the design apart from its sections, else that of the section
abbrev pub NetworkFault : Forest → Placement → Library → DesignFault → Type 0
NetworkFault f p l e = TitleFault f e ⊎ ((t : Title) × IsTitle f t × IsFirstFault t.unit p l (section f).args e)

-- why no network is read: the first fault, or memory ran out
abbrev pub WhyNot : Forest → Placement → Library → ReadWhy → Type 0
WhyNot f p l Memory = Unit {0}
WhyNot f p l (Fault e) = NetworkFault f p l e
