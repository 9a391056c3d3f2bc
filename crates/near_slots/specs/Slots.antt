-- Slots in which rectangles are filed, some of them vacant: what is filed in one, and in all of them in order
-- Cited by `Shelf` and by the models of the indexes above
use Rattle.std.specs.Prelude.{◌≡◌, ◌≢◌, ℕ, List, Option, None, Some, slice_index_or}
use Rattle.std.specs.List.{filter_map}
use Rattle.seg_geometry.specs.declared.near.Filed.{Filed}
use Rattle.near_slots.specs.declared.buckets.Spot.{Spot}
use Rattle.near_slots.specs.Tables.{Table, IsIn}

-- what is filed, in the order of the slots
abbrev pub filed_in : List (Option Filed) → List Filed
filed_in slots = filter_map (λ o. o) slots

-- the slot is there, and this is filed in it
pub record IsAt (slots : List (Option Filed)) (k : ℕ) (p : Filed) : Type 0 where
  pub at : slice_index_or slots k None ≡ Some p

-- nothing of the id is filed in the slot
pub record IsFreeOf (id : ℕ) (slots : List (Option Filed)) (k : ℕ) : Type 0 where
  pub each : (p : Filed) → IsAt slots k p → p.id ≢ id

-- the spot of a slot under a key
abbrev pub spot_of : ℕ → ℕ → Filed → Spot
spot_of key k p = record { key = key; slot = k; rect = p.rect }

-- each slot in use stands under its id
pub record HasIds (ids : Table) (slots : List (Option Filed)) : Type 0 where
  pub each : (k : ℕ) (p : Filed) → IsAt slots k p → IsIn ids (spot_of p.id k p)
