-- What a placement section stands for, said of its whole lists, and what is wrong with one that stands for nothing.
-- Models: the placement and component descriptors of the SPECCTRA reference.
use Rattle.std.specs.Prelude.{◌≡◌, ℕ, ◌⊎◌, List, [], length}
use Rattle.sexp_text.specs.Forest.{Forest, Word}
use Rattle.sexp_text.specs.declared.units.Unit.{Unit as LengthUnit}
use Rattle.dsn_lists.specs.declared.faults.DesignFault.{DesignFault}
use Rattle.dsn_lists.specs.declared.faults.DesignKind.TheVariants as kind
use Rattle.dsn_lists.specs.declared.faults.ReadWhy.{ReadWhy}
use Rattle.dsn_lists.specs.declared.faults.ReadWhy.TheVariants.{Fault, Memory}
use Rattle.dsn_lists.specs.declared.pcb.Section.TheVariants as sections
use Rattle.dsn_lists.specs.declared.pcb.Title.{Title}
use Rattle.dsn_lists.specs.Words.{Heading, head_of}
use Rattle.dsn_lists.specs.Pcbs.{Spot, section_in}
use Rattle.dsn_lists.specs.Lists.{collect, Every, told, IsFirst}
use Rattle.dsn_lists.specs.Measures.{IsUnitList, UnitListFault, governing_unit}
use Rattle.dsn_lists.specs.Titles.{IsTitle, TitleFault}
use Rattle.dsn_shapes.specs.declared.quotas.Quota.{Quota}
use Rattle.dsn_structure.specs.declared.structure.Structure.{Structure}
use Rattle.dsn_structure.specs.FlipLists.{IsPlaceControl, PlaceControlFault}
use Rattle.dsn_library.specs.declared.library.Library.{Library}
use Rattle.dsn_placement.specs.declared.place_lists.PlacementWord.{PlacementWord}
use Rattle.dsn_placement.specs.declared.place_lists.PlacementWord.TheVariants as words
use Rattle.dsn_placement.specs.declared.placement.Placement.{Placement}
use Rattle.dsn_placement.specs.Components.{placement_word}
use Rattle.dsn_placement.specs.PlaceFlips.{governing_flip, flip_for}
use Rattle.dsn_placement.specs.PlaceSites.{Site, Given, HasSites}
use Rattle.dsn_placement.specs.PlaceComponents.{sites_of, IsComponent, ComponentFault}

-- ---- the section

-- the places of a list, which is a component
abbrev pub sites_of_list : PlacementWord → Forest → List Site
sites_of_list words.Component (Word at image rest) = collect (sites_of image) rest
sites_of_list _ f = []

-- the places that a list of the section states
abbrev pub sites_in : ℕ → Forest → List Site
sites_in at inside = sites_of_list (placement_word (head_of inside).text) (head_of inside).args

-- what a list of the section has to be, by its keyword
abbrev pub IsOfPlacement : Given → PlacementWord → Forest → Type 0
IsOfPlacement g words.Component f = IsComponent g f
IsOfPlacement g words.PlaceControl f = IsPlaceControl f
IsOfPlacement g words.Unit f = IsUnitList f
IsOfPlacement g words.Resolution f = ⊥
IsOfPlacement g words.Other f = Unit {0}

-- a list that can stand in the section
abbrev pub IsPlacementList : Given → ℕ → Forest → Type 0
IsPlacementList g at inside = IsOfPlacement g (placement_word (head_of inside).text) (head_of inside).args

-- Lists of the section and what they stand for. Each is as its keyword wants it, and the components are those at all places
-- of all lists, in order.
pub record IsSection (g : Given) (quota : Quota) (f : Forest) (p : Placement) : Type 0 where
  pub formed : Every (IsPlacementList g) f
  pub sites : HasSites g quota (collect sites_in f) p

-- how the components of a section lie, in a design of this unit, which a `unit` list in the section replaces
abbrev pub given : LengthUnit → Structure → Library → Forest → Given
given u s l f = record {
  unit = governing_unit u f;
  setting = record { flip = flip_for (governing_flip s.flip f); layers = length s.layers; stacks = l.stacks };
  library = l;
}

-- the lists of the section are this placement, in a design of this unit, behind this structure and library
abbrev pub IsPlacement : LengthUnit → Structure → Library → Forest → Placement → Type 0
IsPlacement u s l f p = IsSection (given u s l f) s.quota f p

-- ---- the first fault

-- the lists stand for something
abbrev pub Stand : Given → Quota → Forest → Type 0
Stand g quota f = (p : Placement) × IsSection g quota f p

-- what is wrong with a list that begins at this byte behind components at these places, by its keyword
abbrev pub OfPlacementFault : Given → Quota → List Site → ℕ → Heading → PlacementWord → DesignFault → Type 0
OfPlacementFault g quota sites at h words.Component e = ComponentFault g quota sites at h.args e
OfPlacementFault g quota sites at h words.PlaceControl e = PlaceControlFault at h.args e
OfPlacementFault g quota sites at h words.Unit e = UnitListFault at h.args e
OfPlacementFault g quota sites at h words.Resolution e = e ≡ told kind.Unit h.at
OfPlacementFault g quota sites at h words.Other e = ⊥

-- the fault of a list of the section, behind others
abbrev pub PlacementListFault : Given → Quota → Forest → ℕ → Forest → DesignFault → Type 0
PlacementListFault g quota before at inside e = OfPlacementFault g quota (collect sites_in before) at (head_of inside) (placement_word (head_of inside).text) e

-- the first fault of a section in a design of this unit
abbrev pub IsFirstFault : LengthUnit → Structure → Library → Forest → DesignFault → Type 0
IsFirstFault u s l f e = IsFirst (Stand (given u s l f) s.quota) (PlacementListFault (given u s l f) s.quota) f e

-- ---- the placement of a design

-- the list `placement` of a design, which is empty where there is none
abbrev pub section : Forest → Spot
section f = section_in sections.Placement f

-- the design is one with this placement, behind this structure and library
abbrev pub HasPlacement : Forest → Structure → Library → Placement → Type 0
HasPlacement f s l p = (t : Title) × IsTitle f t × IsPlacement t.unit s l (section f).args p

-- the first fault of a design at its placement: that of the design apart from its sections, else that of the section
abbrev pub PlacementFault : Forest → Structure → Library → DesignFault → Type 0
PlacementFault f s l e = TitleFault f e ⊎ ((t : Title) × IsTitle f t × IsFirstFault t.unit s l (section f).args e)

-- why no placement is read: the first fault, or memory ran out
abbrev pub WhyNot : Forest → Structure → Library → ReadWhy → Type 0
WhyNot f s l Memory = Unit {0}
WhyNot f s l (Fault e) = PlacementFault f s l e
