-- The design that the sections of a text state, each behind those before it, and the first fault of them all.
-- Models: the design descriptor of the SPECCTRA reference, whose sections may stand in any order.
use Rattle.std.specs.Prelude.{◌≡◌, ◌⊎◌, ℕ, List}
use Rattle.sexp_text.specs.Forest.{Forest}
use Rattle.board_rules.specs.declared.design.Parts.{Parts}
use Rattle.dsn_lists.specs.declared.faults.DesignFault.{DesignFault}
use Rattle.dsn_lists.specs.declared.pcb.Title.{Title}
use Rattle.dsn_lists.specs.Titles.{IsTitle}
use Rattle.dsn_structure.specs.declared.structure.Structure.{Structure}
use Rattle.dsn_structure.specs.Meaning.{HasStructure, StructureFault}
use Rattle.dsn_library.specs.declared.library.Library.{Library}
use Rattle.dsn_placement.specs.declared.placement.Placement.{Placement}
use Rattle.dsn_network.specs.declared.network.Network.{Network}
use Rattle.dsn_reader.specs.declared.wiring.Wiring.{Wiring}
use Rattle.dsn_reader.specs.Wirings.{Netted}
use Rattle.dsn_library.specs.LibraryMeaning.{HasLibrary, LibraryFault}
use Rattle.dsn_placement.specs.PlacementMeaning.{HasPlacement, PlacementFault}
use Rattle.dsn_network.specs.NetworkMeaning.{HasNetwork, NetworkFault}
use Rattle.dsn_network.specs.ClassOf.{AreClassesOf}
use Rattle.dsn_reader.specs.Meaning.{HasWiring, WiringFault}
use Rattle.dsn_reader.specs.Assembly.{Gathered}
use Rattle.dsn_reader.specs.Rows.{via_names, AreKnown, ViaNameFault, laid_out}

-- what the sections state, with the number of the class of each net of the network
abbrev pub gathering : Title → Structure → Library → Placement → Network → List ℕ → Netted Wiring → Gathered
gathering t s l p n numbers w =
    record { name = t.name; structure = s; library = l; placement = p; classes = n.classes; between = n.pairs; pins = n.pins; numbers = numbers; nets = w.nets; wiring = w.it }

-- the lists and words state the design: each section gives its part behind those before it, each net of the network is of the
-- first class that names it, and each name in a list of vias is a padstack's
pub record States (f : Forest) (p : Parts) : Type 0 where
  pub title : Title
  pub structure : Structure
  pub library : Library
  pub placement : Placement
  pub network : Network
  pub numbers : List ℕ
  pub wired : Netted Wiring
  pub titled : IsTitle f title
  pub structured : HasStructure f structure
  pub stocked : HasLibrary f structure.layers library
  pub placed : HasPlacement f structure library placement
  pub connected : HasNetwork f placement library network
  pub classed : AreClassesOf network.classes network.nets numbers
  pub laid : HasWiring f structure.layers library network.nets network.quota wired
  pub known : AreKnown library.names (via_names structure network.classes)
  pub is : p ≡ laid_out (gathering title structure library placement network numbers wired)

-- ---- the first fault

-- behind the network: that of the wiring, else that of the lists of vias
abbrev pub FaultBehindNetwork : Forest → Structure → Library → Network → DesignFault → Type 0
FaultBehindNetwork f s l n e =
    WiringFault f s.layers l n.nets n.quota e
    ⊎ ((w : Netted Wiring) × HasWiring f s.layers l n.nets n.quota w × ViaNameFault l.names (via_names s n.classes) e)

-- behind the placement: that of the network, else what comes behind it
abbrev pub FaultBehindPlacement : Forest → Structure → Library → Placement → DesignFault → Type 0
FaultBehindPlacement f s l p e = NetworkFault f p l e ⊎ ((n : Network) × HasNetwork f p l n × FaultBehindNetwork f s l n e)

-- behind the library: that of the placement, else what comes behind it
abbrev pub FaultBehindLibrary : Forest → Structure → Library → DesignFault → Type 0
FaultBehindLibrary f s l e = PlacementFault f s l e ⊎ ((p : Placement) × HasPlacement f s l p × FaultBehindPlacement f s l p e)

-- behind the structure: that of the library, else what comes behind it
abbrev pub FaultBehindStructure : Forest → Structure → DesignFault → Type 0
FaultBehindStructure f s e = LibraryFault f s.layers e ⊎ ((l : Library) × HasLibrary f s.layers l × FaultBehindLibrary f s l e)

-- the first fault of the lists and words: that of the design itself or of the structure, else what comes behind it
abbrev pub ListFault : Forest → DesignFault → Type 0
ListFault f e = StructureFault f e ⊎ ((s : Structure) × HasStructure f s × FaultBehindStructure f s e)
