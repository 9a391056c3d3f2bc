-- Points that may be far out of range, as the turns compute with them.
use Rattle.std.specs.Prelude.{ℕ, ◌≤◌, unsigned_abs}
use Rattle.seg_geometry.specs.declared.points.Pt.{Pt}
use Rattle.dsn_turns.specs.declared.turns.Wide.{Wide}

-- the point with these coordinates
abbrev pub point_of : Wide → Pt
point_of w = record { x = w.x; y = w.y }

-- the same with the type of points that may be far
abbrev pub wide_of : Pt → Wide
wide_of p = record { x = p.x; y = p.y }

-- neither coordinate is farther than this from 0
pub record IsAtMost (limit : ℕ) (w : Wide) : Type 0 where
  pub x : unsigned_abs w.x ≤ limit
  pub y : unsigned_abs w.y ≤ limit
