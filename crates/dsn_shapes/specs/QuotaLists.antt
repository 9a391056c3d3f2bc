-- What an item takes of the items and points that may still come.
use Rattle.std.specs.Prelude.{◌≡◌, ℕ, suc, ◌+◌, ◌<◌, ◌⊎◌, List, length}
use Rattle.std.specs.List.{sum_by}
use Rattle.area_geometry.specs.declared.shapes.Shape.{Shape}
use Rattle.area_geometry.specs.Copper.{core_points}
use Rattle.dsn_shapes.specs.declared.quotas.Quota.{Quota}

-- how many points the shapes have
abbrev pub points_of_shapes : List Shape → ℕ
points_of_shapes shapes = sum_by (λ (s : Shape). length (core_points s.core)) shapes

-- an item of so many points takes its part of the quota, and this is left
pub record IsTaken (quota : Quota) (n : ℕ) (left : Quota) : Type 0 where
  pub items : quota.items ≡ suc left.items
  pub points : quota.points ≡ n + left.points

-- no item may come any more, or not so many points
abbrev pub NoQuota : Quota → ℕ → Type 0
NoQuota quota n = (quota.items ≡ 0) ⊎ (quota.points < n)
