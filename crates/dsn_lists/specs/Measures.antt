-- The lengths, widths and units that words state.
-- Models: the unit descriptor of the SPECCTRA reference; a width, diameter, aperture or clearance is 0 to a tenth of a metre.
use Rattle.std.specs.Prelude.{◌≡◌, ◌≤◌, ℕ, ℤ, pos, ◌<ℤ◌, ◌⊎◌, true, List, [], codes, Some, None, option_to_list, Result, Ok, Err, if◌then◌else◌}
use Rattle.row_lists.specs.Limits.{width_limit_nm}
use Rattle.sexp_text.specs.Forest.{Forest, End, Word, Branch}
use Rattle.sexp_text.specs.declared.units.Unit.{Unit as LengthUnit}
use Rattle.sexp_text.specs.declared.num_fault.NumFault.{NumFault}
use Rattle.sexp_text.specs.declared.num_fault.NumFault.TheVariants.{Range}
use Rattle.sexp_text.specs.NumberTexts.{Number, IsNumber, IsNumberText, spelling}
use Rattle.sexp_text.specs.Lengths.{nanometres_of, IsLength}
use Rattle.dsn_lists.specs.declared.faults.DesignFault.{DesignFault}
use Rattle.dsn_lists.specs.declared.faults.DesignKind.{DesignKind}
use Rattle.dsn_lists.specs.declared.faults.DesignKind.TheVariants as kind
use Rattle.dsn_lists.specs.Words.{same, head_of}
use Rattle.dsn_lists.specs.Units.{unit_of}
use Rattle.dsn_lists.specs.Lists.{collect, last_of, told}
use Rattle.dsn_lists.specs.ShortLists.{only_lists, HasStray, HasWord, NoWordOr}

-- ---- widths

-- the text spells a number that is this length in the unit, or out of range in it
abbrev pub Measures : LengthUnit → List ℕ → Result ℤ NumFault → Type 0
Measures u text r = (n : Number) × IsNumber n × (text ≡ spelling n) × IsLength n (nanometres_of u) r

-- the text states this width in nm, of at most 100,000,000
abbrev pub IsWidth : LengthUnit → List ℕ → ℕ → Type 0
IsWidth u text n = Measures u text (Ok (pos n)) × (n ≤ width_limit_nm)

-- the text states a width
abbrev pub StatesWidth : LengthUnit → List ℕ → Type 0
StatesWidth u text = (n : ℕ) × IsWidth u text n

-- why a text states no width: it is no number, or its length is out of range, below 0 or above 100,000,000
abbrev pub NoWidth : LengthUnit → List ℕ → DesignKind → Type 0
NoWidth u text kind.Number = IsNumberText text → ⊥
NoWidth u text kind.Range = Measures u text (Err Range)
NoWidth u text kind.Width = (z : ℤ) × Measures u text (Ok z) × ((z <ℤ pos 0) ⊎ (pos width_limit_nm <ℤ z))
NoWidth u text _ = ⊥

-- the fault of a word at this byte that is to state a width
abbrev pub WidthWordFault : LengthUnit → ℕ → List ℕ → DesignFault → Type 0
WidthWordFault u at text e = NoWidth u text e.kind × (e.at ≡ at)

-- `(width w)`, behind its keyword
abbrev pub IsWidthList : LengthUnit → Forest → Type 0
IsWidthList u f = HasWord (λ text rest. StatesWidth u text × (only_lists rest ≡ true)) f

-- the fault of a list that is to hold a width
abbrev pub WidthListFault : LengthUnit → ℕ → Forest → DesignFault → Type 0
WidthListFault u at f e = NoWordOr (λ a text rest e. WidthWordFault u a text e ⊎ (StatesWidth u text × HasStray rest e)) at f e

-- ---- units

-- the word names a unit
abbrev pub NamesUnit : List ℕ → Type 0
NamesUnit text = (u : LengthUnit) × (unit_of text ≡ Some u)

-- `(unit <unit>)`, behind its keyword
abbrev pub IsUnitList : Forest → Type 0
IsUnitList f = HasWord (λ text rest. NamesUnit text × (only_lists rest ≡ true)) f

-- the fault of a list that is to name a unit
abbrev pub UnitListFault : ℕ → Forest → DesignFault → Type 0
UnitListFault at f e = NoWordOr (λ a text rest e. ((unit_of text ≡ None) × (e ≡ told kind.Unit a)) ⊎ (NamesUnit text × HasStray rest e)) at f e

-- the unit that is named, where nothing is wrong
abbrev pub unit_named : Forest → List LengthUnit
unit_named End = []
unit_named (Word a text rest) = if only_lists rest then option_to_list (unit_of text) else []
unit_named (Branch a inside rest) = []

-- the unit that a list states, where it is a `unit` list without fault
abbrev pub units_in : ℕ → Forest → List LengthUnit
units_in at inside = if same (head_of inside).text (codes "unit") then unit_named (head_of inside).args else []

-- the unit that governs lists: the last that they state, else the one given
abbrev pub governing_unit : LengthUnit → Forest → LengthUnit
governing_unit u f = last_of u (collect units_in f)
