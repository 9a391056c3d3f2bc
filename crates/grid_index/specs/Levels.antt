-- In which cell of which level a slot stands, and in which cells it is sought
-- Cited by the steps of `Grid`; no promise of it speaks of cells
use Rattle.std.specs.Prelude.{◌≡◌, ℕ, ◌<◌, ◌≤◌, ◌+◌, ◌-◌, List, [], Option, length, slice_index_or}
use Rattle.seg_geometry.specs.declared.near.Filed.{Filed}
use Rattle.seg_geometry.specs.declared.rectangles.Rect.{Rect}
use Rattle.near_slots.specs.declared.buckets.Spot.{Spot}
use Rattle.near_slots.specs.Tables.{Table, IsIn, Keeps, KeepsOthers}
use Rattle.near_slots.specs.Slots.{IsAt, spot_of}
use Rattle.grid_index.specs.Cells.{column_of, key_of, level_count, shift_of, IsFitting}

-- the cells of a level, of which there are none past the last
abbrev pub level_at : List Table → ℕ → Table
level_at levels j = slice_index_or levels j (record { lists = []; mask = 0 })

-- the key of the cell in which the least corner of a filed rectangle lies
abbrev pub cell_key : ℕ → Filed → ℕ
cell_key shift p = key_of p.layer (column_of shift p.rect.lo.x) (column_of shift p.rect.lo.y)

-- the slot stands in the cell of its rectangle, at a level at which it fits
pub record IsInCell (levels : List Table) (p : Filed) (slot : ℕ) : Type 0 where
  pub level : ℕ
  pub there : level < length levels
  pub fitting : IsFitting (shift_of level) p.rect
  pub in_cell : IsIn (level_at levels level) (spot_of (cell_key (shift_of level) p) slot p)

-- there are all levels, and each slot in use stands in its cell at one of them
pub record AreInCells (levels : List Table) (slots : List (Option Filed)) : Type 0 where
  pub complete : length levels ≡ level_count
  pub each : (k : ℕ) (p : Filed) → IsAt slots k p → IsInCell levels p k

-- what stands in cells stays there
pub record LevelsKeep (old new : List Table) : Type 0 where
  pub same : length new ≡ length old
  pub each : (j : ℕ) → Keeps (level_at old j) (level_at new j)

-- so do all slots but one
pub record LevelsKeepOthers (gone : ℕ) (old new : List Table) : Type 0 where
  pub same : length new ≡ length old
  pub each : (j : ℕ) → KeepsOthers gone (level_at old j) (level_at new j)

-- the spot stands in a cell of the column, in a row from the first to before the second
pub record IsInColumn (cells : Table) (layer column from to : ℕ) (s : Spot) : Type 0 where
  pub row : ℕ
  pub low : from ≤ row
  pub high : row < to
  pub key : s.key ≡ key_of layer column row
  pub stands : IsIn cells s

-- the spot stands in such a cell of a column from the first to before the second
pub record IsInColumns (cells : Table) (layer left right from to : ℕ) (s : Spot) : Type 0 where
  pub column : ℕ
  pub low : left ≤ column
  pub high : column < right
  pub stands : IsInColumn cells layer column from to s

-- the spot stands in a cell in which something may stand that meets the rectangle
abbrev pub IsAsked : Table → ℕ → ℕ → Rect → Spot → Type 0
IsAsked cells layer shift asked s =
    IsInColumns cells layer (column_of shift asked.lo.x - 1) (column_of shift asked.hi.x + 1)
    (column_of shift asked.lo.y - 1) (column_of shift asked.hi.y + 1) s

-- it does at one of the first levels
pub record IsAskedBelow (levels : List Table) (layer : ℕ) (asked : Rect) (levels_done : ℕ) (s : Spot) : Type 0 where
  pub level : ℕ
  pub below : level < levels_done
  pub asked_in : IsAsked (level_at levels level) layer (shift_of level) asked s
