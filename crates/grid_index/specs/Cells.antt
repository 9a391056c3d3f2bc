-- The cells of a plane, of several sizes, and at which sizes a rectangle fits
-- Cited by `Grid`; no promise of it speaks of cells
use Rattle.std.specs.Prelude.{ℕ, ◌+◌, ◌-◌, ◌*◌, ◌/◌, ◌%◌, ◌^◌, ◌≤◌, ℤ, pos, negsuc}
use Rattle.seg_geometry.specs.declared.rectangles.Rect.{Rect}

-- how far a coordinate is from the least one that there is
abbrev pub place_of : ℤ → ℕ
place_of (pos n) = 2 ^ 63 + n
place_of (negsuc n) = 2 ^ 63 - 1 - n

-- the column or row of a coordinate, of cells with sides of 2^shift
unfoldable pub column_of : ℕ → ℤ → ℕ
column_of shift x = place_of x / 2 ^ shift

-- how many sizes of cells there are
abbrev pub level_count : ℕ
level_count = 25

-- the binary logarithm of the sides of the cells of a level
abbrev pub shift_of : ℕ → ℕ
shift_of level = 15 + 2 * level

-- under which key a cell is found
unfoldable pub key_of : ℕ → ℕ → ℕ → ℕ
key_of layer column row =
    (((column * 15485907386658061715) % 2 ^ 64 + (row * 14029467366897019727) % 2 ^ 64) % 2 ^ 64 + layer) % 2 ^ 64

-- the rectangle reaches no farther than the next column and the next row
pub record IsFitting (shift : ℕ) (rect : Rect) : Type 0 where
  pub columns : column_of shift rect.hi.x ≤ column_of shift rect.lo.x + 1
  pub rows : column_of shift rect.hi.y ≤ column_of shift rect.lo.y + 1
