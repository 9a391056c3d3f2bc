-- What a ring of points is behind the word of its layer, and what is wrong with one.
-- Models: the polygon and path descriptors of the SPECCTRA reference, with round apertures alone.
use Rattle.std.specs.Prelude.{◌≡◌, ℕ, ◌≤◌, ◌<◌, ◌⊎◌, false, List, [], ◌∷◌, ◌++◌, length}
use Rattle.sexp_text.specs.Forest.{Forest}
use Rattle.sexp_text.specs.declared.units.Unit.{Unit as LengthUnit}
use Rattle.seg_geometry.specs.declared.points.Pt.{Pt}
use Rattle.dsn_lists.specs.declared.faults.DesignFault.{DesignFault}
use Rattle.dsn_lists.specs.declared.faults.DesignKind.TheVariants as kind
use Rattle.dsn_lists.specs.declared.marks.Mark.{Mark}
use Rattle.dsn_lists.specs.Lists.{told}
use Rattle.dsn_lists.specs.ShortLists.{HasWord, NoWordOr, first_words, behind_words}
use Rattle.dsn_lists.specs.Measures.{IsWidth, StatesWidth, WidthWordFault}
use Rattle.dsn_lists.specs.PointWords.{AllLengths, ArePoints, LengthsFault, are_even}
use Rattle.dsn_lists.specs.TrailLists.{IsTrail, TrailFault}
use Rattle.dsn_shapes.specs.declared.rings.Ring.{Ring}

-- ---- rings

-- the points are those of the ring, and behind them its first point again
abbrev pub IsClosing : List Pt → List Pt → Type 0
IsClosing points [] = ⊥
IsClosing points (p ∷ ps) = points ≡ p ∷ (ps ++ p ∷ [])

-- the ring of these points: without a last one that is the first again
abbrev pub IsRingOf : List Pt → List Pt → Type 0
IsRingOf points ring = IsClosing points ring ⊎ ((ring ≡ points) × ((other : List Pt) → IsClosing points other → ⊥))

-- ---- `(polygon <layer> <aperture> x y x y ..)`

-- behind the aperture: the points of a ring, three or more, and lists
pub record HasRing (u : LengthUnit) (f : Forest) (ring : List Pt) : Type 0 where
  pub points : List Pt
  pub stated : ArePoints u (first_words f) points
  pub open_ : IsRingOf points ring
  pub count : 3 ≤ length ring
  pub lists : IsTrail (behind_words f)

-- behind its layer: an aperture, and a ring
abbrev pub IsRing : LengthUnit → Forest → Ring → Type 0
IsRing u f r = HasWord (λ text rest. IsWidth u text r.width × HasRing u rest r.points) f

-- so many coordinates are no points, or their ring has less than three
abbrev pub AreNoRing : LengthUnit → List Mark → Type 0
AreNoRing u words = (are_even words ≡ false) ⊎ ((points ring : List Pt) × ArePoints u words points × IsRingOf points ring × (length ring < 3))

-- the fault of what follows the aperture of a ring that begins at this byte: of a coordinate, then of a list, then that the
-- coordinates are odd in number or too few
abbrev pub RingPointsFault : LengthUnit → ℕ → Forest → DesignFault → Type 0
RingPointsFault u at f e =
    LengthsFault u (first_words f) e
    ⊎ (AllLengths u (first_words f) × (TrailFault (behind_words f) e ⊎ (IsTrail (behind_words f) × AreNoRing u (first_words f) × (e ≡ told kind.Points at))))

-- the fault of a ring behind its layer
abbrev pub RingFault : LengthUnit → ℕ → Forest → DesignFault → Type 0
RingFault u at f e = NoWordOr (λ a text rest e. WidthWordFault u a text e ⊎ (StatesWidth u text × RingPointsFault u at rest e)) at f e
