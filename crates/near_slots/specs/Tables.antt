-- Tables of spots: which ones stand in a table, in the list to which their keys lead
-- Cited by `Buckets`
use Rattle.std.specs.Prelude.{◌≢◌, ℕ, ◌*◌, ◌/◌, ◌%◌, ◌^◌, List, [], slice_index_or, bit_and}
use Rattle.std.specs.List.{Contains}
use Rattle.near_slots.specs.declared.buckets.Spot.{Spot}

-- the lists of a table, and the mask that picks one of them for a key
pub record Table : Type 0 where
  pub lists : List (List Spot)
  pub mask : ℕ

-- which of the lists a key leads to
unfoldable pub bucket_of : ℕ → ℕ → ℕ
bucket_of mask key = bit_and ((key * 11400714819323198485) % 2 ^ 64 / 2 ^ 32) mask

-- the spot stands in the table
pub record IsIn (t : Table) (s : Spot) : Type 0 where
  pub stands : Contains (slice_index_or t.lists (bucket_of t.mask s.key) []) s

-- what stands in the old table stands in the new one
pub record Keeps (old new : Table) : Type 0 where
  pub each : (s : Spot) → IsIn old s → IsIn new s

-- so do the spots of all slots but one
pub record KeepsOthers (gone : ℕ) (old new : Table) : Type 0 where
  pub each : (s : Spot) → s.slot ≢ gone → IsIn old s → IsIn new s

-- each of the spots stands in the table
pub record HasAll (t : Table) (spots : List Spot) : Type 0 where
  pub each : (s : Spot) → Contains spots s → IsIn t s
