-- What a design is apart from its sections, said of its whole lists, and what is wrong with a text that is none.
-- Models: the design descriptor `(pcb ..)` of the SPECCTRA reference, each section at most once.
use Rattle.std.specs.Prelude.{◌≡◌, ℕ, ◌⊎◌, Bool, true, false, List, [], ◌∷◌, ◌++◌, map, codes, Option, Some, None, option_to_list}
use Rattle.std.specs.List.{list_any}
use Rattle.sexp_text.specs.Forest.{Forest, End, Word, Branch}
use Rattle.sexp_text.specs.declared.units.Unit.{Unit as LengthUnit}
use Rattle.dsn_lists.specs.declared.faults.DesignFault.{DesignFault}
use Rattle.dsn_lists.specs.declared.faults.DesignKind.TheVariants as kind
use Rattle.dsn_lists.specs.declared.faults.ReadWhy.{ReadWhy}
use Rattle.dsn_lists.specs.declared.faults.ReadWhy.TheVariants.{Fault, Memory}
use Rattle.dsn_lists.specs.declared.pcb.Section.{Section}
use Rattle.dsn_lists.specs.declared.pcb.Section.TheVariants as sections
use Rattle.dsn_lists.specs.declared.pcb.Title.{Title}
use Rattle.dsn_lists.specs.declared.pcb.PcbWord.{PcbWord}
use Rattle.dsn_lists.specs.declared.pcb.PcbWord.TheVariants as words
use Rattle.dsn_lists.specs.Words.{Heading, same, head_of}
use Rattle.dsn_lists.specs.Units.{unit_of}
use Rattle.dsn_lists.specs.Pcbs.{is_whole, pcb_word}
use Rattle.dsn_lists.specs.Lists.{collect, Every, last_of, told, IsFirst}
use Rattle.dsn_lists.specs.ShortLists.{only_lists, HasStray, HasWord, NoWordOr}
use Rattle.dsn_lists.specs.Measures.{NamesUnit, IsUnitList, UnitListFault, unit_named}

-- ---- `(resolution <unit> <whole number from 1>)`

-- a whole number from 1, and lists that are read over
abbrev pub IsPrecision : Forest → Type 0
IsPrecision f = HasWord (λ text rest. (is_whole text ≡ true) × (only_lists rest ≡ true)) f

-- the fault of what is to be a whole number, in the list that begins at this byte
abbrev pub PrecisionFault : ℕ → Forest → DesignFault → Type 0
PrecisionFault at f e = NoWordOr (λ a text rest e. ((is_whole text ≡ false) × (e ≡ told kind.Number a)) ⊎ ((is_whole text ≡ true) × HasStray rest e)) at f e

-- a unit and a whole number
abbrev pub IsResolution : Forest → Type 0
IsResolution f = HasWord (λ text rest. NamesUnit text × IsPrecision rest) f

-- the fault of a `resolution` list
abbrev pub ResolutionFault : ℕ → Forest → DesignFault → Type 0
ResolutionFault at f e = NoWordOr (λ a text rest e. ((unit_of text ≡ None) × (e ≡ told kind.Unit a)) ⊎ (NamesUnit text × PrecisionFault at rest e)) at f e

-- the unit that the first word names
abbrev pub first_unit : Forest → List LengthUnit
first_unit End = []
first_unit (Word a text rest) = option_to_list (unit_of text)
first_unit (Branch a inside rest) = []

-- ---- the lists of a design

-- what a list of the design has to be, by its keyword
abbrev pub IsOfPcb : PcbWord → Forest → Type 0
IsOfPcb words.Unit f = IsUnitList f
IsOfPcb words.Resolution f = IsResolution f
IsOfPcb (words.Part s) f = Unit {0}
IsOfPcb words.Other f = Unit {0}

-- a list that can stand in a design, but for what stands in a section
abbrev pub IsPcbList : ℕ → Forest → Type 0
IsPcbList at inside = IsOfPcb (pcb_word (head_of inside).text) (head_of inside).args

-- the unit, of a `unit` list
abbrev pub unit_of_list : PcbWord → Forest → List LengthUnit
unit_of_list words.Unit f = unit_named f
unit_of_list _ f = []

-- the unit that a list states as a `unit` list
abbrev pub pcb_units : ℕ → Forest → List LengthUnit
pcb_units at inside = unit_of_list (pcb_word (head_of inside).text) (head_of inside).args

-- the unit, of a `resolution` list
abbrev pub resolution_of_list : PcbWord → Forest → List LengthUnit
resolution_of_list words.Resolution f = first_unit f
resolution_of_list _ f = []

-- the unit that a list states as a `resolution` list
abbrev pub resolutions_in : ℕ → Forest → List LengthUnit
resolutions_in at inside = resolution_of_list (pcb_word (head_of inside).text) (head_of inside).args

-- the section, of a list that is one
abbrev pub section_of_list : PcbWord → List Section
section_of_list (words.Part s) = s ∷ []
section_of_list _ = []

-- the section that a list is
abbrev pub sections_in : ℕ → Forest → List Section
sections_in at inside = section_of_list (pcb_word (head_of inside).text)

-- the two are the same section
abbrev pub same_section : Section → Section → Bool
same_section sections.Structure sections.Structure = true
same_section sections.Library sections.Library = true
same_section sections.Placement sections.Placement = true
same_section sections.Network sections.Network = true
same_section sections.Wiring sections.Wiring = true
same_section _ _ = false

-- the section is one of these
abbrev pub stands : Section → List Section → Bool
stands s ss = list_any (same_section s) ss

-- no section is one of those that stand before it
abbrev pub AreOnce : List Section → Type 0
AreOnce ss = (before after : List Section) (s : Section) → ss ≡ before ++ s ∷ after → stands s before ≡ false

-- lists that can stand in a design, with each section at most once
pub record ArePcbLists (f : Forest) : Type 0 where
  pub formed : Every IsPcbList f
  pub once : AreOnce (collect sections_in f)

-- the unit that holds: the last of the `unit` lists, else the last of the `resolution` lists
abbrev pub design_unit : Forest → Option LengthUnit
design_unit f = last_of None (map Some (collect resolutions_in f ++ collect pcb_units f))

-- a design of this name with these lists
pub record IsTitleOf (name : List ℕ) (f : Forest) (t : Title) : Type 0 where
  pub lists : ArePcbLists f
  pub structure : stands sections.Structure (collect sections_in f) ≡ true
  pub name_is : t.name ≡ name
  pub unit : design_unit f ≡ Some t.unit

-- `pcb`, the name of the design, and its lists
abbrev pub IsPcb : Forest → Title → Type 0
IsPcb f t = HasWord (λ text rest. (same text (codes "pcb") ≡ true) × HasWord (λ name lists. IsTitleOf name lists t) rest) f

-- the text is one list, a design with this name and unit
abbrev pub IsTitle : Forest → Title → Type 0
IsTitle End t = ⊥
IsTitle (Word at text rest) t = ⊥
IsTitle (Branch at inside rest) t = IsPcb inside t × (rest ≡ End)

-- ---- the first fault

-- what is wrong with a list of the design behind those of these sections, by its keyword
abbrev pub OfPcbFault : List Section → ℕ → Heading → PcbWord → DesignFault → Type 0
OfPcbFault ss at h words.Unit e = UnitListFault at h.args e
OfPcbFault ss at h words.Resolution e = ResolutionFault at h.args e
OfPcbFault ss at h (words.Part s) e = (stands s ss ≡ true) × (e ≡ told kind.Twice h.at)
OfPcbFault ss at h words.Other e = ⊥

-- the fault of a list of the design, behind others
abbrev pub PcbListFault : Forest → ℕ → Forest → DesignFault → Type 0
PcbListFault before at inside e = OfPcbFault (collect sections_in before) at (head_of inside) (pcb_word (head_of inside).text) e

-- there is no structure, or no unit
abbrev pub IsIncomplete : Forest → Type 0
IsIncomplete f = (stands sections.Structure (collect sections_in f) ≡ false) ⊎ (design_unit f ≡ None)

-- the first fault of the lists of the design that begins at this byte, where it is also told what is missing
abbrev pub PcbListsFault : ℕ → Forest → DesignFault → Type 0
PcbListsFault at f e = IsFirst ArePcbLists PcbListFault f e ⊎ (ArePcbLists f × IsIncomplete f × (e ≡ told kind.Missing at))

-- the fault of what stands in the list that begins at this byte
abbrev pub PcbFault : ℕ → Forest → DesignFault → Type 0
PcbFault at f e =
    NoWordOr (λ a text rest e. ((same text (codes "pcb") ≡ false) × (e ≡ told kind.Form a))
    ⊎ ((same text (codes "pcb") ≡ true) × NoWordOr (λ b name lists e. PcbListsFault at lists e) at rest e)) at f e

-- something stands behind the design
abbrev pub HasMore : Forest → DesignFault → Type 0
HasMore End e = ⊥
HasMore (Word at text rest) e = e ≡ told kind.Form at
HasMore (Branch at inside rest) e = e ≡ told kind.Form at

-- the first fault of a design, apart from its sections
abbrev pub TitleFault : Forest → DesignFault → Type 0
TitleFault End e = e ≡ told kind.Form 0
TitleFault (Word at text rest) e = e ≡ told kind.Form at
TitleFault (Branch at inside rest) e = PcbFault at inside e ⊎ ((t : Title) × IsPcb inside t × HasMore rest e)

-- why no title is read: the first fault, or memory ran out
abbrev pub WhyNoTitle : Forest → ReadWhy → Type 0
WhyNoTitle f Memory = Unit {0}
WhyNoTitle f (Fault e) = TitleFault f e
