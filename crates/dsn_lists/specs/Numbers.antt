-- Lengths and widths in words.
use Rattle.std.specs.Prelude.{ℕ, ℤ, pos, int_lt, unsigned_abs, ◌||◌, Result, Ok, Err, if◌then◌else◌}
use Rattle.row_lists.specs.Limits.{width_limit_nm}
use Rattle.sexp_text.specs.declared.units.Unit.{Unit as LengthUnit}
use Rattle.sexp_text.specs.declared.num_fault.NumFault.{NumFault}
use Rattle.sexp_text.specs.declared.num_fault.NumFault.TheVariants as num
use Rattle.sexp_text.specs.LengthReading.{length_in}
use Rattle.dsn_lists.specs.declared.faults.DesignKind.TheVariants as kind
use Rattle.dsn_lists.specs.declared.marks.Mark.{Mark}
use Rattle.dsn_lists.specs.Results.{Read, ◌>>=◌, wrong}

abbrev pub length_told : ℕ → Result ℤ NumFault → Read ℤ
length_told at (Ok z) = Ok z
length_told at (Err num.NotNumber) = wrong kind.Number at
length_told at (Err num.Range) = wrong kind.Range at

-- the length in nm that a word states
abbrev pub length_word : LengthUnit → Mark → Read ℤ
length_word u w = length_told w.at (length_in u w.name)

-- a length of 0 to 100,000,000 nm
unfoldable pub as_width : ℕ → ℤ → Read ℕ
as_width at z = if int_lt z (pos 0) || int_lt (pos width_limit_nm) z then wrong kind.Width at else Ok (unsigned_abs z)

-- the width, diameter, aperture or clearance in nm that a word states
unfoldable pub width_word : LengthUnit → Mark → Read ℕ
width_word u w = length_word u w >>= λ z. as_width w.at z
