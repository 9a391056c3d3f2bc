-- Pairs of coordinates.
use Rattle.std.specs.Prelude.{ℤ, List, [], ◌∷◌, ◌++◌, Option, Some, None, Ok}
use Rattle.sexp_text.specs.Forest.{Forest, End, Word, Branch}
use Rattle.sexp_text.specs.declared.units.Unit.{Unit as LengthUnit}
use Rattle.seg_geometry.specs.declared.points.Pt.{Pt}
use Rattle.dsn_lists.specs.declared.places.Coordinates.{Coordinates}
use Rattle.dsn_lists.specs.Results.{Read, ◌>>=◌}
use Rattle.dsn_lists.specs.Words.{mark}
use Rattle.dsn_lists.specs.Numbers.{length_word}

abbrev pub point : ℤ → ℤ → Pt
point x y = record { x = x; y = y }

-- one more coordinate: the x of the next point, or the y of a point whose x is there
abbrev pub put : List Pt → Option ℤ → ℤ → Coordinates
put ps None z = record { points = ps; half = Some z }
put ps (Some x) z = record { points = ps ++ point x z ∷ []; half = None }

abbrev pub with_one : Coordinates → ℤ → Coordinates
with_one c z = put c.points c.half z

abbrev pub no_coordinates : Coordinates
no_coordinates = record { points = []; half = None }

-- the coordinates up to a list or the end, behind those that are there, and what follows
unfoldable pub coordinates : LengthUnit → Coordinates → Forest → Read (Coordinates × Forest)
coordinates u c End = Ok (c, End)
coordinates u c (Word at text rest) = length_word u (mark at text) >>= λ z. coordinates u (with_one c z) rest
coordinates u c (Branch at inside rest) = Ok (c, Branch at inside rest)
