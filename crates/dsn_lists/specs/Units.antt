-- Units of length, and which of them governs.
-- Models: the unit and resolution descriptors of the SPECCTRA reference. Left out: the value of a resolution.
use Rattle.std.specs.Prelude.{ℕ, List, codes, Ok, Err, Option, Some, None, if◌then◌else◌}
use Rattle.sexp_text.specs.Forest.{Forest, End, Word, Branch}
use Rattle.sexp_text.specs.declared.units.Unit.{Unit as LengthUnit}
use Rattle.sexp_text.specs.declared.units.Unit.TheVariants.{Inch, Mil, Cm, Mm, Um}
use Rattle.dsn_lists.specs.declared.faults.DesignKind.TheVariants as kind
use Rattle.dsn_lists.specs.declared.marks.Mark.{Mark}
use Rattle.dsn_lists.specs.Results.{Read, ◌>>=◌, wrong}
use Rattle.dsn_lists.specs.Words.{same, head_of, word_of, spare}

-- the unit that a word names
unfoldable pub unit_of : List ℕ → Option LengthUnit
unit_of text =
    if same text (codes "inch") then Some Inch else
    if same text (codes "mil") then Some Mil else
    if same text (codes "cm") then Some Cm else
    if same text (codes "mm") then Some Mm else
    if same text (codes "um") then Some Um else None

abbrev pub known_unit : ℕ → Option LengthUnit → Read LengthUnit
known_unit at None = wrong kind.Unit at
known_unit at (Some u) = Ok u

abbrev pub unit_word : Mark → Read LengthUnit
unit_word w = known_unit w.at (unit_of w.name)

-- what `(unit <unit>)` states, of the list that begins at this byte
unfoldable pub unit_list : ℕ → Forest → Read LengthUnit
unit_list at f = do
  w ← word_of at f
  u ← unit_word w.0
  _ ← spare w.1
  Ok u

-- the unit that holds behind a list that was to state one
abbrev pub stated_or : LengthUnit → Read LengthUnit → LengthUnit
stated_or u (Ok v) = v
stated_or u (Err e) = u

-- the unit that holds behind a list
unfoldable pub unit_behind : LengthUnit → ℕ → Forest → LengthUnit
unit_behind u at inside = if same (head_of inside).text (codes "unit") then stated_or u (unit_list at (head_of inside).args) else u

-- the unit that governs the lists: that of the last `unit` list without fault among them, else the one given
unfoldable pub governing : LengthUnit → Forest → LengthUnit
governing u End = u
governing u (Word at text rest) = governing u rest
governing u (Branch at inside rest) = governing (unit_behind u at inside) rest
