-- Which points lie in an area: those from which the ray towards greater x crosses an odd number of its edges
-- Cited by `inside` and by all that tells areas apart
use Rattle.std.specs.Prelude.{◌≡◌, ◌%◌, Bool, ◌&&◌, List, ℤ, ◌+ℤ◌, ◌-ℤ◌, ◌*ℤ◌, int_lt}
use Rattle.std.specs.Int.{int_signum}
use Rattle.std.specs.Ordering.{int_eq}
use Rattle.std.specs.List.{count_by}
use Rattle.std.proofs.Math.Bool.{xor}
use Rattle.seg_geometry.specs.declared.points.Pt.{Pt}
use Rattle.seg_geometry.specs.declared.points.Seg.{Seg}
use Rattle.area_geometry.specs.Copper.{area_edges}

-- whether p is above v
abbrev pub is_above : Pt → Pt → Bool
is_above v p = int_lt v.y p.y

-- how far right of v the line of the edge is at the height of v, times the edge's rise
abbrev pub lead : Pt → Seg → ℤ
lead v e = (e.a.x -ℤ v.x) *ℤ (e.b.y -ℤ e.a.y) +ℤ (v.y -ℤ e.a.y) *ℤ (e.b.x -ℤ e.a.x)

-- whether the edge counts: exactly one of its ends is above v, and it crosses the height of v right of v
unfoldable pub counts : Pt → Seg → Bool
counts v e = xor (is_above v e.a) (is_above v e.b) && int_eq (int_signum (lead v e)) (int_signum (e.b.y -ℤ e.a.y))

-- v lies in the area: an odd number of its edges counts
abbrev pub IsInside : Pt → List Pt → Type 0
IsInside v points = count_by (counts v) (area_edges points) % 2 ≡ 1
