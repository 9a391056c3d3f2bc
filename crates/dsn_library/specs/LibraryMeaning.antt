-- What a library section stands for, said of its whole lists, and what is wrong with one that stands for nothing.
-- Models: the library descriptor of the SPECCTRA reference.
use Rattle.std.specs.Prelude.{◌≡◌, ℕ, ◌≤◌, ◌⊎◌, List, length}
use Rattle.row_lists.specs.Limits.{padstack_limit}
use Rattle.sexp_text.specs.Forest.{Forest}
use Rattle.sexp_text.specs.declared.units.Unit.{Unit as LengthUnit}
use Rattle.dsn_lists.specs.declared.faults.DesignFault.{DesignFault}
use Rattle.dsn_lists.specs.declared.faults.DesignKind.TheVariants as kind
use Rattle.dsn_lists.specs.declared.faults.ReadWhy.{ReadWhy}
use Rattle.dsn_lists.specs.declared.faults.ReadWhy.TheVariants.{Fault, Memory}
use Rattle.dsn_lists.specs.declared.pcb.Section.TheVariants as sections
use Rattle.dsn_lists.specs.declared.pcb.Title.{Title}
use Rattle.dsn_lists.specs.Words.{Heading, head_of}
use Rattle.dsn_lists.specs.Pcbs.{Spot, section_in}
use Rattle.dsn_lists.specs.Lists.{collect, Every, AreFresh, told, IsFirst}
use Rattle.dsn_lists.specs.Measures.{UnitListFault, governing_unit}
use Rattle.dsn_lists.specs.Titles.{IsTitle, TitleFault}
use Rattle.dsn_library.specs.declared.library.Library.{Library}
use Rattle.dsn_library.specs.declared.library.LibraryWord.{LibraryWord}
use Rattle.dsn_library.specs.declared.library.LibraryWord.TheVariants as words
use Rattle.dsn_library.specs.Libraries.{library_word}
use Rattle.dsn_library.specs.StackLists.{StackFault}
use Rattle.dsn_library.specs.ImageMeaning.{ImageFault}
use Rattle.dsn_library.specs.LibraryParts.{padstacks, IsLibraryList, names_in, stacks_in, AreStacks, image_names_in, images_in, AreImages}

-- ---- the section

-- Lists of the section, with lengths in this unit and for layers and padstacks of these names, and what they stand for.
-- Each is as its keyword wants it. The padstacks are those that stand there, in order, each name once and at most 65,535.
-- The images are those that stand there, in order, each name once.
pub record IsSection (u : LengthUnit) (layers stacks : List (List ℕ)) (f : Forest) (l : Library) : Type 0 where
  pub formed : Every (IsLibraryList u layers stacks) f
  pub names : l.names ≡ collect names_in f
  pub fresh : AreFresh l.names
  pub few : length l.names ≤ padstack_limit
  pub stacks_are : AreStacks u layers (collect stacks_in f) l.stacks
  pub image_names : l.image_names ≡ collect image_names_in f
  pub image_fresh : AreFresh l.image_names
  pub images : AreImages u layers stacks (collect images_in f) l.images

-- a section in a design of this unit, which a `unit` list in the section replaces; its pins have padstacks of its own
abbrev pub IsLibrary : LengthUnit → List (List ℕ) → Forest → Library → Type 0
IsLibrary u layers f l = IsSection (governing_unit u f) layers (padstacks f) f l

-- ---- the first fault

-- the lists stand for something
abbrev pub Stand : LengthUnit → List (List ℕ) → List (List ℕ) → Forest → Type 0
Stand u layers stacks f = (l : Library) × IsSection u layers stacks f l

-- what is wrong with a list that begins at this byte behind padstacks of these names and images of those, by its keyword
abbrev pub OfLibraryFault : LengthUnit → List (List ℕ) → List (List ℕ) → List (List ℕ) → List (List ℕ) → ℕ → Heading → LibraryWord → DesignFault → Type 0
OfLibraryFault u layers stacks names images at h words.Stack e = StackFault u layers names at h.args e
OfLibraryFault u layers stacks names images at h words.Image e = ImageFault u layers stacks images at h.args e
OfLibraryFault u layers stacks names images at h words.Unit e = UnitListFault at h.args e
OfLibraryFault u layers stacks names images at h words.Resolution e = e ≡ told kind.Unit h.at
OfLibraryFault u layers stacks names images at h words.Other e = ⊥

-- the fault of a list of the section, behind others
abbrev pub LibraryListFault : LengthUnit → List (List ℕ) → List (List ℕ) → Forest → ℕ → Forest → DesignFault → Type 0
LibraryListFault u layers stacks before at inside e =
    OfLibraryFault u layers stacks (collect names_in before) (collect image_names_in before) at (head_of inside) (library_word (head_of inside).text) e

-- the first fault of a section in a design of this unit
abbrev pub IsFirstFault : LengthUnit → List (List ℕ) → Forest → DesignFault → Type 0
IsFirstFault u layers f e = IsFirst (Stand (governing_unit u f) layers (padstacks f)) (LibraryListFault (governing_unit u f) layers (padstacks f)) f e

-- ---- the library of a design

-- the list `library` of a design, which is empty where there is none
abbrev pub section : Forest → Spot
section f = section_in sections.Library f

-- the design is one with this library, for layers of these names
abbrev pub HasLibrary : Forest → List (List ℕ) → Library → Type 0
HasLibrary f layers l = (t : Title) × IsTitle f t × IsLibrary t.unit layers (section f).args l

-- the first fault of a design at its library: that of the design apart from its sections, else that of the section
abbrev pub LibraryFault : Forest → List (List ℕ) → DesignFault → Type 0
LibraryFault f layers e = TitleFault f e ⊎ ((t : Title) × IsTitle f t × IsFirstFault t.unit layers (section f).args e)

-- why no library is read: the first fault, or memory ran out
abbrev pub WhyNot : Forest → List (List ℕ) → ReadWhy → Type 0
WhyNot f layers Memory = Unit {0}
WhyNot f layers (Fault e) = LibraryFault f layers e
