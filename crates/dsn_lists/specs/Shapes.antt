-- Circles and paths behind the word of their layer.
-- Models: the circle and path descriptors of the SPECCTRA reference, with round apertures alone.
use Rattle.std.specs.Prelude.{ℕ, pos, nat_lt, ◌||◌, is_some, List, codes, length, Ok, if◌then◌else◌}
use Rattle.sexp_text.specs.Forest.{Forest, End, Word, Branch}
use Rattle.sexp_text.specs.declared.units.Unit.{Unit as LengthUnit}
use Rattle.seg_geometry.specs.declared.points.Pt.{Pt}
use Rattle.dsn_lists.specs.declared.faults.DesignKind.TheVariants as kind
use Rattle.dsn_lists.specs.declared.marks.Mark.{Mark}
use Rattle.dsn_lists.specs.declared.places.Coordinates.{Coordinates}
use Rattle.dsn_lists.specs.declared.shapes.Path.{Path}
use Rattle.dsn_lists.specs.declared.shapes.Circle.{Circle}
use Rattle.dsn_lists.specs.declared.shapes.TrailWord.{TrailWord}
use Rattle.dsn_lists.specs.declared.shapes.TrailWord.TheVariants as trails
use Rattle.dsn_lists.specs.Results.{Read, ◌>>=◌, wrong, each}
use Rattle.dsn_lists.specs.Words.{Heading, same, mark, head_of, word_of, spare}
use Rattle.dsn_lists.specs.Numbers.{length_word, width_word}
use Rattle.dsn_lists.specs.Places.{point, no_coordinates, coordinates}

-- what a list behind the words of a shape is
unfoldable pub trail_word : List ℕ → TrailWord
trail_word text =
    if same text (codes "window") then trails.Window else
    if same text (codes "aperture_type") then trails.ApertureType else trails.Other

-- an aperture is round
unfoldable pub aperture : ℕ → Forest → Read (Unit {0})
aperture at f = do
  w ← word_of at f
  if same w.0.name (codes "square") then wrong kind.Square w.0.at else spare w.1

abbrev pub trail_list : ℕ → Heading → TrailWord → Read (Unit {0})
trail_list at h trails.Window = wrong kind.Window h.at
trail_list at h trails.ApertureType = aperture at h.args
trail_list at h trails.Other = Ok tt

unfoldable pub trail_item : Unit {0} → ℕ → Forest → Read (Unit {0})
trail_item x at inside = trail_list at (head_of inside) (trail_word (head_of inside).text)

-- the lists behind the words of a shape
abbrev pub trail : Forest → Read (Unit {0})
trail f = each trail_item tt f

-- a path has whole points, two or more
unfoldable pub as_path : ℕ → ℕ → Coordinates → Read Path
as_path at width c = if is_some c.half || nat_lt (length c.points) 2 then wrong kind.Points at else Ok (record { width = width; points = c.points })

-- the aperture and the points of a path
unfoldable pub path_of : LengthUnit → ℕ → Forest → Read Path
path_of u at f = do
  w ← word_of at f
  width ← width_word u w.0
  c ← coordinates u no_coordinates w.1
  _ ← trail c.1
  as_path at width c.0

-- a point behind the word of its x
unfoldable pub point_of : LengthUnit → ℕ → Mark → Forest → Read (Pt × Forest)
point_of u at w f = do
  x ← length_word u w
  v ← word_of at f
  y ← length_word u v.0
  Ok (point x y, v.1)

-- the centre of a circle, 0 0 where none is given, and what follows
unfoldable pub centre_of : LengthUnit → ℕ → Forest → Read (Pt × Forest)
centre_of u at End = Ok (point (pos 0) (pos 0), End)
centre_of u at (Word a text rest) = point_of u at (mark a text) rest
centre_of u at (Branch a inside rest) = Ok (point (pos 0) (pos 0), Branch a inside rest)

-- the diameter and the centre of a circle
unfoldable pub circle_of : LengthUnit → ℕ → Forest → Read Circle
circle_of u at f = do
  w ← word_of at f
  width ← width_word u w.0
  c ← centre_of u at w.1
  _ ← trail c.1
  Ok (record { width = width; centre = c.0 })
