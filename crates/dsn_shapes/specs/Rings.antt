-- Rectangles, and rings of points, behind the word of their layer.
-- Models: the rectangle and polygon descriptors of the SPECCTRA reference, with round apertures alone.
use Rattle.std.specs.Prelude.{ℕ, ◌-◌, nat_lt, ◌&&◌, ◌||◌, Bool, false, is_some, List, [], ◌∷◌, take, length, slice_get, Option, Some, None, Ok, if◌then◌else◌}
use Rattle.std.specs.Ordering.{int_eq}
use Rattle.sexp_text.specs.Forest.{Forest}
use Rattle.sexp_text.specs.declared.units.Unit.{Unit as LengthUnit}
use Rattle.seg_geometry.specs.declared.points.Pt.{Pt}
use Rattle.dsn_lists.specs.declared.faults.DesignKind.TheVariants as kind
use Rattle.dsn_lists.specs.declared.places.Coordinates.{Coordinates}
use Rattle.dsn_lists.specs.Results.{Read, ◌>>=◌, wrong}
use Rattle.dsn_lists.specs.Words.{word_of}
use Rattle.dsn_lists.specs.Numbers.{width_word}
use Rattle.dsn_lists.specs.Places.{point, no_coordinates, coordinates}
use Rattle.dsn_lists.specs.Shapes.{trail, point_of}
use Rattle.dsn_shapes.specs.declared.rings.Ring.{Ring}

-- ---- rings

abbrev pub is_same_point : Pt → Pt → Bool
is_same_point p q = int_eq p.x q.x && int_eq p.y q.y

abbrev pub are_same : Option Pt → Option Pt → Bool
are_same (Some p) (Some q) = is_same_point p q
are_same (Some p) None = false
are_same None q = false

-- there are two points or more, and the last is the first again
unfoldable pub is_closed : List Pt → Bool
is_closed ps = nat_lt 1 (length ps) && are_same (slice_get ps 0) (slice_get ps (length ps - 1))

-- the points without a last one that is the first again
unfoldable pub opened : List Pt → List Pt
opened ps = if is_closed ps then take (length ps - 1) ps else ps

-- a ring has whole points, and three or more behind which the first doesn't come again
unfoldable pub as_ring : ℕ → ℕ → Coordinates → Read Ring
as_ring at width c = if is_some c.half || nat_lt (length (opened c.points)) 3 then wrong kind.Points at else Ok (record { width = width; points = opened c.points })

-- the aperture and the points of a ring
unfoldable pub ring_of : LengthUnit → ℕ → Forest → Read Ring
ring_of u at f = do
  w ← word_of at f
  width ← width_word u w.0
  c ← coordinates u no_coordinates w.1
  _ ← trail c.1
  as_ring at width c.0

-- ---- rectangles

-- a corner, and what follows
unfoldable pub corner_of : LengthUnit → ℕ → Forest → Read (Pt × Forest)
corner_of u at f = word_of at f >>= λ w. point_of u at w.0 w.1

-- the corners of a rectangle, of which these are two that face each other
abbrev pub corners : Pt → Pt → List Pt
corners p q = p ∷ point q.x p.y ∷ q ∷ point p.x q.y ∷ []

-- the corners of a rectangle
unfoldable pub rect_of : LengthUnit → ℕ → Forest → Read (List Pt)
rect_of u at f = do
  p ← corner_of u at f
  q ← corner_of u at p.1
  _ ← trail q.1
  Ok (corners p.0 q.0)
