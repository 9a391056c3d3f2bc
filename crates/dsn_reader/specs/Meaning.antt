-- What a wiring section stands for, said of its whole lists, and what is wrong with one that stands for nothing.
-- Models: the wiring descriptor of the SPECCTRA reference.
use Rattle.std.specs.Prelude.{◌≡◌, ◌≤◌, ◌+◌, ℕ, ◌⊎◌, List, [], ◌∷◌, ◌++◌, length, slice_get}
use Rattle.std.specs.List.{sum_by}
use Rattle.row_lists.specs.Limits.{net_limit}
use Rattle.sexp_text.specs.Forest.{Forest, End, Word, Branch}
use Rattle.sexp_text.specs.declared.units.Unit.{Unit as LengthUnit}
use Rattle.board_items.specs.declared.items.Item.{Item}
use Rattle.board_items.specs.declared.items.Item.TheVariants as items
use Rattle.board_items.specs.declared.items.Padstack.{Padstack}
use Rattle.board_items.specs.Shapes.{shapes_of}
use Rattle.dsn_lists.specs.declared.faults.DesignFault.{DesignFault}
use Rattle.dsn_lists.specs.declared.faults.DesignKind.TheVariants as kind
use Rattle.dsn_lists.specs.declared.faults.ReadWhy.{ReadWhy}
use Rattle.dsn_lists.specs.declared.faults.ReadWhy.TheVariants.{Fault, Memory}
use Rattle.dsn_lists.specs.declared.pcb.Section.TheVariants as sections
use Rattle.dsn_lists.specs.declared.pcb.Title.{Title}
use Rattle.dsn_lists.specs.Words.{Heading, head_of}
use Rattle.dsn_lists.specs.Pcbs.{section_in}
use Rattle.dsn_lists.specs.Lists.{collect, told, IsFirst}
use Rattle.dsn_lists.specs.Measures.{IsUnitList, UnitListFault, governing_unit}
use Rattle.dsn_lists.specs.Titles.{IsTitle, TitleFault}
use Rattle.dsn_shapes.specs.declared.quotas.Quota.{Quota}
use Rattle.dsn_shapes.specs.QuotaLists.{points_of_shapes}
use Rattle.dsn_library.specs.declared.library.Library.{Library}
use Rattle.dsn_reader.specs.declared.wiring.Wiring.{Wiring}
use Rattle.dsn_reader.specs.declared.wiring.WiringWord.{WiringWord}
use Rattle.dsn_reader.specs.declared.wiring.WiringWord.TheVariants as words
use Rattle.dsn_reader.specs.Wirings.{Netted, wiring_word}
use Rattle.dsn_reader.specs.EndLists.{with_names, names_in}
use Rattle.dsn_reader.specs.WireLists.{IsWire, WireFault}
use Rattle.dsn_reader.specs.ViaLists.{AreVias, ViaFault}

-- ---- the lists of the section

-- what a list of the section has to be, and the items that it stands for, by its keyword
abbrev pub IsOfWiring : LengthUnit → List (List ℕ) → Library → List (List ℕ) → WiringWord → Forest → List Item → Type 0
IsOfWiring u layers l nets words.Wire f is = (i : Item) × IsWire u layers nets f i × (is ≡ i ∷ [])
IsOfWiring u layers l nets words.Via f is = AreVias u l nets f is
IsOfWiring u layers l nets words.Unit f is = IsUnitList f × (is ≡ [])
IsOfWiring u layers l nets words.Resolution f is = ⊥
IsOfWiring u layers l nets words.Other f is = is ≡ []

-- there are only lists, and these are the items that they stand for, in order
abbrev pub HaveItems : LengthUnit → List (List ℕ) → Library → List (List ℕ) → Forest → List Item → Type 0
HaveItems u layers l nets End is = is ≡ []
HaveItems u layers l nets (Word at text rest) is = ⊥
HaveItems u layers l nets (Branch at inside rest) is =
    (here later : List Item) × IsOfWiring u layers l nets (wiring_word (head_of inside).text) (head_of inside).args here
    × HaveItems u layers l nets rest later × (is ≡ here ++ later)

-- the nets that a wire or a list of vias names
abbrev pub used_by_list : WiringWord → Forest → List (List ℕ)
used_by_list words.Wire f = collect names_in f
used_by_list words.Via f = collect names_in f
used_by_list _ f = []

-- the nets that a list of the section names
abbrev pub used_in : ℕ → Forest → List (List ℕ)
used_in at inside = used_by_list (wiring_word (head_of inside).text) (head_of inside).args

-- how many points the shapes of a wire or a via have
abbrev pub points_of_item : List Padstack → Item → ℕ
points_of_item stacks (items.Wire net layer width points fix) = length points
points_of_item stacks (items.Via net padstack place fix) = points_of_shapes (shapes_of (slice_get stacks padstack))
points_of_item stacks _ = 0

-- ---- the section

-- Lists of the section, with lengths in this unit, and what they stand for. A net that isn't one of these is put behind them
-- in the order of first use, and there are at most 100,000. The items are those of the lists in order. They and their points,
-- with those that may still come, are the quota that there was.
pub record IsWiring (u : LengthUnit) (layers : List (List ℕ)) (l : Library) (nets : List (List ℕ)) (quota : Quota) (f : Forest) (x : Netted Wiring) : Type 0 where
  pub nets_are : x.nets ≡ with_names nets (collect used_in f)
  pub few_nets : length x.nets ≤ net_limit
  pub items_are : HaveItems u layers l x.nets f x.it.items
  pub few_items : length x.it.items + x.it.quota.items ≡ quota.items
  pub few_points : sum_by (points_of_item l.stacks) x.it.items + x.it.quota.points ≡ quota.points

-- ---- the first fault

-- what is wrong with a list that begins at this byte behind wiring, by its keyword
abbrev pub OfWiringFault : LengthUnit → List (List ℕ) → Library → Netted Wiring → ℕ → Heading → WiringWord → DesignFault → Type 0
OfWiringFault u layers l x at h words.Wire e = WireFault u layers x at h.args e
OfWiringFault u layers l x at h words.Via e = ViaFault u l x at h.args e
OfWiringFault u layers l x at h words.Unit e = UnitListFault at h.args e
OfWiringFault u layers l x at h words.Resolution e = e ≡ told kind.Unit h.at
OfWiringFault u layers l x at h words.Other e = ⊥

-- the fault of a list of the section, behind others
abbrev pub WiringListFault : LengthUnit → List (List ℕ) → Library → List (List ℕ) → Quota → Forest → ℕ → Forest → DesignFault → Type 0
WiringListFault u layers l nets quota before at inside e =
    (x : Netted Wiring) × IsWiring u layers l nets quota before x × OfWiringFault u layers l x at (head_of inside) (wiring_word (head_of inside).text) e

-- the first fault of a section: that of its lists
abbrev pub IsFirstFault : LengthUnit → List (List ℕ) → Library → List (List ℕ) → Quota → Forest → DesignFault → Type 0
IsFirstFault u layers l nets quota f e = IsFirst (λ f. (x : Netted Wiring) × IsWiring u layers l nets quota f x) (WiringListFault u layers l nets quota) f e

-- ---- the wiring of a design

-- what stands in the list `wiring` of a design
abbrev pub section : Forest → Forest
section f = (section_in sections.Wiring f).args

-- the design is one with this wiring, behind these nets and with this quota
abbrev pub HasWiring : Forest → List (List ℕ) → Library → List (List ℕ) → Quota → Netted Wiring → Type 0
HasWiring f layers l nets quota x = (t : Title) × IsTitle f t × IsWiring (governing_unit t.unit (section f)) layers l nets quota (section f) x

-- the first fault of a design up to its wiring: that of the design apart from its sections, else that of the section
abbrev pub WiringFault : Forest → List (List ℕ) → Library → List (List ℕ) → Quota → DesignFault → Type 0
WiringFault f layers l nets quota e = TitleFault f e ⊎ ((t : Title) × IsTitle f t × IsFirstFault (governing_unit t.unit (section f)) layers l nets quota (section f) e)

-- why no wiring is read: the first fault, or memory ran out
abbrev pub WhyNot : Forest → List (List ℕ) → Library → List (List ℕ) → Quota → ReadWhy → Type 0
WhyNot f layers l nets quota Memory = Unit {0}
WhyNot f layers l nets quota (Fault e) = WiringFault f layers l nets quota e
