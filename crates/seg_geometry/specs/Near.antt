-- Lists of rectangles on layers, each under the id of what it belongs to: what is left when an id goes, and which
-- ids have a rectangle that meets an asked one
-- Cited by `Near`
use Rattle.std.specs.Prelude.{◌≡◌, ℕ, List, ◌==◌, not, ◌↔◌, Any}
use Rattle.std.specs.List.{filter, Contains}
use Rattle.std.specs.List.Sorted.{IsStrictlyIncreasing}
use Rattle.seg_geometry.specs.declared.near.Filed.{Filed}
use Rattle.seg_geometry.specs.declared.rectangles.Rect.{Rect}
use Rattle.seg_geometry.specs.Rectangles.{Meets}

-- the list without what is filed under the id
abbrev pub without : ℕ → List Filed → List Filed
without id filed = filter (λ f. not (f.id == id)) filed

-- it is filed on the layer, and meets the asked rectangle
pub record IsNear (layer : ℕ) (asked : Rect) (f : Filed) : Type 0 where
  pub on_layer : f.layer ≡ layer
  pub meets : Meets f.rect asked

-- the ids are exactly those under which something near is filed, rising, each once
pub record AreNear (layer : ℕ) (asked : Rect) (filed : List Filed) (ids : List ℕ) : Type 0 where
  pub exact : (id : ℕ) → Contains ids id ↔ Any (λ f. (f.id ≡ id) × IsNear layer asked f) filed
  pub rising : IsStrictlyIncreasing ids
