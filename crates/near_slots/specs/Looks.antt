-- What a search over some spots adds to a list of ids
-- Cited by `Search`
use Rattle.std.specs.Prelude.{◌≡◌, ℕ, ◌⊎◌, List, Option}
use Rattle.std.specs.List.{Contains}
use Rattle.seg_geometry.specs.declared.near.Filed.{Filed}
use Rattle.seg_geometry.specs.declared.rectangles.Rect.{Rect}
use Rattle.seg_geometry.specs.Near.{IsNear}
use Rattle.near_slots.specs.declared.buckets.Spot.{Spot}
use Rattle.near_slots.specs.declared.search.Search.{Search}
use Rattle.near_slots.specs.Slots.{IsAt}

-- something near is filed in a slot under the id
pub record IsUnder (slots : List (Option Filed)) (layer : ℕ) (asked : Rect) (id : ℕ) : Type 0 where
  pub slot : ℕ
  pub filed : Filed
  pub at : IsAt slots slot filed
  pub of : filed.id ≡ id
  pub near : IsNear layer asked filed

-- the ids of what is near in the slots of those spots are added, and no id without something near
pub record Looks (slots : List (Option Filed)) (layer : ℕ) (asked : Rect) (In : Spot → Type 0) (old new : List ℕ) : Type 0 where
  pub kept : (id : ℕ) → Contains old id → Contains new id
  pub sound : (id : ℕ) → Contains new id → Contains old id ⊎ IsUnder slots layer asked id
  pub all : (s : Spot) (p : Filed) → In s → IsAt slots s.slot p → s.rect ≡ p.rect → IsNear layer asked p → Contains new p.id

-- a search adds what it looks for
abbrev pub Adds : Search → (Spot → Type 0) → List ℕ → List ℕ → Type 0
Adds search In old new = Looks search.shelf.now search.layer search.rect In old new
