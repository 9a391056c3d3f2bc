-- How many items and points may still come.
use Rattle.std.specs.Prelude.{ℕ, ◌-◌, nat_lt, ◌==◌, List, [], ◌∷◌, length, Option, Some, None, if◌then◌else◌}
use Rattle.row_lists.specs.Limits.{item_limit, point_limit}
use Rattle.area_geometry.specs.declared.shapes.Shape.{Shape}
use Rattle.area_geometry.specs.Copper.{core_points}
use Rattle.dsn_shapes.specs.declared.quotas.Quota.{Quota}

-- what a design may have in all
abbrev pub whole_quota : Quota
whole_quota = record { items = item_limit; points = point_limit }

-- how many points may still come behind so many; none where there are too many
abbrev pub less : ℕ → ℕ → Option ℕ
less left count = if nat_lt left count then None else Some (left - count)

abbrev pub less_of : Option ℕ → ℕ → Option ℕ
less_of None count = None
less_of (Some left) count = less left count

-- how many points may still come behind those of the shapes
unfoldable pub less_all : Option ℕ → List Shape → Option ℕ
less_all left [] = left
less_all left (s ∷ ss) = less_all (less_of left (length (core_points s.core))) ss

-- one item less, where so many points are left
abbrev pub item_less : Quota → Option ℕ → Option Quota
item_less quota None = None
item_less quota (Some left) = if quota.items == 0 then None else Some (record { items = quota.items - 1; points = left })

-- the quota behind an item of so many points
unfoldable pub quota_for : Quota → ℕ → Option Quota
quota_for quota points = item_less quota (less quota.points points)

-- the quota behind an item of these shapes
unfoldable pub quota_behind : Quota → List Shape → Option Quota
quota_behind quota ss = item_less quota (less_all (Some quota.points) ss)
