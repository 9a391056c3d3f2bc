-- What circles and paths are behind the word of their layer, and what is wrong with one.
-- Models: the circle and path descriptors of the SPECCTRA reference, with round apertures alone.
use Rattle.std.specs.Prelude.{◌≡◌, ℕ, pos, ◌≤◌, ◌<◌, ◌⊎◌, false, List, length, Ok}
use Rattle.sexp_text.specs.Forest.{Forest, End, Word, Branch}
use Rattle.sexp_text.specs.declared.units.Unit.{Unit as LengthUnit}
use Rattle.seg_geometry.specs.declared.points.Pt.{Pt}
use Rattle.dsn_lists.specs.declared.faults.DesignFault.{DesignFault}
use Rattle.dsn_lists.specs.declared.faults.DesignKind.TheVariants as kind
use Rattle.dsn_lists.specs.declared.marks.Mark.{Mark}
use Rattle.dsn_lists.specs.declared.shapes.Path.{Path}
use Rattle.dsn_lists.specs.declared.shapes.Circle.{Circle}
use Rattle.dsn_lists.specs.Places.{point}
use Rattle.dsn_lists.specs.Lists.{told}
use Rattle.dsn_lists.specs.ShortLists.{HasWord, NoWordOr, first_words, behind_words}
use Rattle.dsn_lists.specs.Measures.{Measures, IsWidth, StatesWidth, WidthWordFault}
use Rattle.dsn_lists.specs.PointWords.{AllLengths, ArePoints, LengthWordFault, LengthsFault, StatesLength, are_even}
use Rattle.dsn_lists.specs.TrailLists.{IsTrail, TrailFault}

-- ---- `(path <layer> <aperture> x y x y ..)`

-- behind its layer: an aperture, two points or more, and lists
abbrev pub IsPath : LengthUnit → Forest → Path → Type 0
IsPath u f p = HasWord (λ text rest. IsWidth u text p.width × ArePoints u (first_words rest) p.points × (2 ≤ length p.points) × IsTrail (behind_words rest)) f

-- so many coordinates are no points, or less than two
abbrev pub AreNoPoints : List Mark → Type 0
AreNoPoints words = (are_even words ≡ false) ⊎ (length words < 4)

-- the fault of what follows the aperture of a path that begins at this byte: of a coordinate, then of a list, then that the
-- coordinates are odd in number or too few
abbrev pub PointsFault : LengthUnit → ℕ → Forest → DesignFault → Type 0
PointsFault u at f e =
    LengthsFault u (first_words f) e
    ⊎ (AllLengths u (first_words f) × (TrailFault (behind_words f) e ⊎ (IsTrail (behind_words f) × AreNoPoints (first_words f) × (e ≡ told kind.Points at))))

-- the fault of a path behind its layer
abbrev pub PathFault : LengthUnit → ℕ → Forest → DesignFault → Type 0
PathFault u at f e = NoWordOr (λ a text rest e. WidthWordFault u a text e ⊎ (StatesWidth u text × PointsFault u at rest e)) at f e

-- ---- `(circle <layer> <diameter> [x y])`

-- behind its diameter: the x and the y of its centre, and lists; or only lists, for a centre at 0 0
abbrev pub IsCentre : LengthUnit → Forest → Pt → Type 0
IsCentre u End p = p ≡ point (pos 0) (pos 0)
IsCentre u (Word a text rest) p = Measures u text (Ok p.x) × HasWord (λ word lists. Measures u word (Ok p.y) × IsTrail lists) rest
IsCentre u (Branch a inside rest) p = (p ≡ point (pos 0) (pos 0)) × IsTrail (Branch a inside rest)

-- behind its layer: a diameter, a centre, and lists
abbrev pub IsCircle : LengthUnit → Forest → Circle → Type 0
IsCircle u f c = HasWord (λ text rest. IsWidth u text c.width × IsCentre u rest c.centre) f

-- the fault of what follows the diameter of a circle that begins at this byte
abbrev pub CentreFault : LengthUnit → ℕ → Forest → DesignFault → Type 0
CentreFault u at End e = ⊥
CentreFault u at (Word a text rest) e =
    LengthWordFault u a text e
    ⊎ (StatesLength u text × NoWordOr (λ b word lists e. LengthWordFault u b word e ⊎ (StatesLength u word × TrailFault lists e)) at rest e)
CentreFault u at (Branch a inside rest) e = TrailFault (Branch a inside rest) e

-- the fault of a circle behind its layer
abbrev pub CircleFault : LengthUnit → ℕ → Forest → DesignFault → Type 0
CircleFault u at f e = NoWordOr (λ a text rest e. WidthWordFault u a text e ⊎ (StatesWidth u text × CentreFault u at rest e)) at f e
