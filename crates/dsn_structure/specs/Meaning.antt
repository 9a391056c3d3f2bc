-- What a structure section stands for, said of its whole lists, and what is wrong with one that stands for nothing.
-- Models: the structure, boundary, keepout and via descriptors of the SPECCTRA reference.
use Rattle.std.specs.Prelude.{◌≡◌, ℕ, ◌+◌, ◌≤◌, ◌<◌, ◌⊎◌, List, [], codes, map, length, Some, None}
use Rattle.row_lists.specs.Limits.{layer_limit, item_limit, point_limit}
use Rattle.sexp_text.specs.Forest.{Forest}
use Rattle.sexp_text.specs.declared.units.Unit.{Unit as LengthUnit}
use Rattle.seg_geometry.specs.declared.points.Pt.{Pt}
use Rattle.area_geometry.specs.declared.shapes.Shape.{Shape}
use Rattle.dsn_lists.specs.declared.faults.DesignFault.{DesignFault}
use Rattle.dsn_lists.specs.declared.faults.DesignKind.TheVariants as kind
use Rattle.dsn_lists.specs.declared.faults.ReadWhy.{ReadWhy}
use Rattle.dsn_lists.specs.declared.faults.ReadWhy.TheVariants.{Fault, Memory}
use Rattle.dsn_lists.specs.declared.pcb.Section.TheVariants as sections
use Rattle.dsn_lists.specs.declared.pcb.Title.{Title}
use Rattle.dsn_lists.specs.Words.{Heading, head_of}
use Rattle.dsn_lists.specs.Pcbs.{Spot, section_in}
use Rattle.dsn_lists.specs.Lists.{collect, Every, last_of, AreFresh, told, IsFirst}
use Rattle.dsn_lists.specs.ShortLists.{IsNameList, NameListFault}
use Rattle.dsn_lists.specs.Measures.{IsUnitList, UnitListFault, governing_unit}
use Rattle.dsn_lists.specs.Titles.{IsTitle, TitleFault}
use Rattle.dsn_lists.specs.Statements.{IsRule, RuleFault, Says}
use Rattle.dsn_shapes.specs.NameLists.{each_once, first_of}
use Rattle.dsn_shapes.specs.KeepLists.{IsKeepout, KeepoutFault}
use Rattle.dsn_shapes.specs.OutlineLists.{IsBoundary, BoundaryFault}
use Rattle.dsn_shapes.specs.QuotaLists.{points_of_shapes, NoQuota}
use Rattle.dsn_structure.specs.declared.structure.Structure.{Structure}
use Rattle.dsn_structure.specs.declared.structure.StructureWord.{StructureWord}
use Rattle.dsn_structure.specs.declared.structure.StructureWord.TheVariants as words
use Rattle.dsn_structure.specs.Structures.{structure_word}
use Rattle.dsn_structure.specs.LayerLists.{IsLayer, LayerFault}
use Rattle.dsn_structure.specs.FlipLists.{IsPlaceControl, PlaceControlFault}
use Rattle.dsn_structure.specs.InLists.{layers_in, vias_in, rule_widths, rule_claims, flips_in}
use Rattle.dsn_structure.specs.AreaLists.{boundaries_in, AreOutlines, keeps_in, AreKeeps, points_of_keeps}

-- ---- the lists of the section

-- what a list of the section has to be, by its keyword; a keepout names layers of these names
abbrev pub IsOfStructure : LengthUnit → List (List ℕ) → StructureWord → Forest → Type 0
IsOfStructure u layers words.Layer f = IsLayer f
IsOfStructure u layers words.Via f = IsNameList f
IsOfStructure u layers words.Rule f = IsRule u f
IsOfStructure u layers words.PlaceControl f = IsPlaceControl f
IsOfStructure u layers words.Unit f = IsUnitList f
IsOfStructure u layers words.Resolution f = ⊥
IsOfStructure u layers words.Boundary f = (areas : List (List Pt)) × IsBoundary u f areas
IsOfStructure u layers (words.Keep k) f = (ss : List Shape) × IsKeepout u layers f ss
IsOfStructure u layers words.Other f = Unit {0}

-- a list that can stand in the section
abbrev pub IsStructureList : LengthUnit → List (List ℕ) → ℕ → Forest → Type 0
IsStructureList u layers at inside = IsOfStructure u layers (structure_word (head_of inside).text) (head_of inside).args

-- ---- the section

-- Lists of the section, with lengths in this unit and keepouts on layers of these names, and what they stand for. Each is as
-- its keyword wants it. The layers are those named, in order, each once and at most 32. All via lists are kept. Of all rules
-- the last width holds, and the clearances are kept in order. The last flip style holds. The outline has the areas of all
-- boundaries, and all keepouts are kept. They and the items that may still come are 200,000, and their points 4,000,000.
pub record IsSection (u : LengthUnit) (names : List (List ℕ)) (f : Forest) (s : Structure) : Type 0 where
  pub formed : Every (IsStructureList u names) f
  pub layers : s.layers ≡ collect layers_in f
  pub fresh : AreFresh s.layers
  pub few : length s.layers ≤ layer_limit
  pub vias : s.vias ≡ collect vias_in f
  pub rule : Says u (collect rule_widths f) (collect rule_claims f) s.rule
  pub flip : s.flip ≡ last_of None (map Some (collect flips_in f))
  pub outline : AreOutlines u (collect boundaries_in f) s.outline
  pub keeps : AreKeeps u names (collect keeps_in f) s.keeps
  pub items : length s.keeps + s.quota.items ≡ item_limit
  pub points : points_of_keeps s.keeps + s.quota.points ≡ point_limit

-- the names of the layers of the whole section, also of those that stand behind a keepout
abbrev pub section_layers : Forest → List (List ℕ)
section_layers f = each_once (collect (first_of (codes "layer")) f)

-- a section with a layer, in a design of this unit, which a `unit` list in the section replaces
pub record IsStructure (u : LengthUnit) (f : Forest) (s : Structure) : Type 0 where
  pub section : IsSection (governing_unit u f) (section_layers f) f s
  pub some : 0 < length s.layers

-- ---- the first fault

-- the lists stand for something
abbrev pub Stand : LengthUnit → List (List ℕ) → Forest → Type 0
Stand u layers f = (s : Structure) × IsSection u layers f s

-- the fault of a keepout that begins at this byte behind a structure: its own, or that there is no room for it
abbrev pub KeepFault : LengthUnit → List (List ℕ) → Structure → ℕ → Forest → DesignFault → Type 0
KeepFault u layers s at f e =
    KeepoutFault u layers at f e
    ⊎ ((ss : List Shape) × IsKeepout u layers f ss × NoQuota s.quota (points_of_shapes ss) × (e ≡ told kind.Large at))

-- what is wrong with a list that begins at this byte behind a structure, by its keyword
abbrev pub OfStructureFault : LengthUnit → List (List ℕ) → Structure → ℕ → Heading → StructureWord → DesignFault → Type 0
OfStructureFault u layers s at h words.Layer e = LayerFault s.layers at h.args e
OfStructureFault u layers s at h words.Via e = NameListFault at h.args e
OfStructureFault u layers s at h words.Rule e = RuleFault u h.args e
OfStructureFault u layers s at h words.PlaceControl e = PlaceControlFault at h.args e
OfStructureFault u layers s at h words.Unit e = UnitListFault at h.args e
OfStructureFault u layers s at h words.Resolution e = e ≡ told kind.Unit h.at
OfStructureFault u layers s at h words.Boundary e = BoundaryFault u at h.args e
OfStructureFault u layers s at h (words.Keep k) e = KeepFault u layers s at h.args e
OfStructureFault u layers s at h words.Other e = ⊥

-- the fault of a list of the section, behind others
abbrev pub StructureListFault : LengthUnit → List (List ℕ) → Forest → ℕ → Forest → DesignFault → Type 0
StructureListFault u layers before at inside e =
    (s : Structure) × IsSection u layers before s × OfStructureFault u layers s at (head_of inside) (structure_word (head_of inside).text) e

-- the first fault of a section at its place, by this unit and these names: that of its lists, or that there is no layer, told
-- at its byte
abbrev pub FaultIn : LengthUnit → List (List ℕ) → Spot → DesignFault → Type 0
FaultIn u layers p e = IsFirst (Stand u layers) (StructureListFault u layers) p.args e ⊎ (Stand u layers p.args × (collect layers_in p.args ≡ []) × (e ≡ told kind.Missing p.at))

-- the first fault of a section at its place, in a design of this unit
abbrev pub IsFirstFault : LengthUnit → Spot → DesignFault → Type 0
IsFirstFault u p e = FaultIn (governing_unit u p.args) (section_layers p.args) p e

-- ---- the structure of a design

-- the list `structure` of a design
abbrev pub section : Forest → Spot
section f = section_in sections.Structure f

-- the design is one with this structure
abbrev pub HasStructure : Forest → Structure → Type 0
HasStructure f s = (t : Title) × IsTitle f t × IsStructure t.unit (section f).args s

-- the first fault of a design up to its structure: that of the design apart from its sections, else that of the section
abbrev pub StructureFault : Forest → DesignFault → Type 0
StructureFault f e = TitleFault f e ⊎ ((t : Title) × IsTitle f t × IsFirstFault t.unit (section f) e)

-- why no structure is read: the first fault, or memory ran out
abbrev pub WhyNot : Forest → ReadWhy → Type 0
WhyNot f Memory = Unit {0}
WhyNot f (Fault e) = StructureFault f e
