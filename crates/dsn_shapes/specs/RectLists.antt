-- What a rectangle is behind the word of its layer, and what is wrong with one.
-- Models: the rectangle descriptor of the SPECCTRA reference.
use Rattle.std.specs.Prelude.{◌≡◌, ℕ, ℤ, ◌⊎◌, List, [], ◌∷◌, Ok}
use Rattle.sexp_text.specs.Forest.{Forest}
use Rattle.sexp_text.specs.declared.units.Unit.{Unit as LengthUnit}
use Rattle.seg_geometry.specs.declared.points.Pt.{Pt}
use Rattle.dsn_lists.specs.declared.faults.DesignFault.{DesignFault}
use Rattle.dsn_lists.specs.Places.{point}
use Rattle.dsn_lists.specs.ShortLists.{HasWord, NoWordOr}
use Rattle.dsn_lists.specs.Measures.{Measures}
use Rattle.dsn_lists.specs.PointWords.{LengthWordFault, StatesLength}
use Rattle.dsn_lists.specs.TrailLists.{IsTrail, TrailFault}

-- ---- `(rect <layer> x1 y1 x2 y2)`

-- a word that states this length stands first, and this holds of what follows
abbrev pub HasLength : LengthUnit → ℤ → (Forest → Type 0) → Forest → Type 0
HasLength u z Holds f = HasWord (λ text rest. Measures u text (Ok z) × Holds rest) f

-- behind its layer: the x and y of a corner, those of the corner that faces it, and lists; the corners from the first one round
pub record IsRect (u : LengthUnit) (f : Forest) (ps : List Pt) : Type 0 where
  pub x1 : ℤ
  pub y1 : ℤ
  pub x2 : ℤ
  pub y2 : ℤ
  pub stated : HasLength u x1 (HasLength u y1 (HasLength u x2 (HasLength u y2 IsTrail))) f
  pub corners : ps ≡ point x1 y1 ∷ point x2 y1 ∷ point x2 y2 ∷ point x1 y2 ∷ []

-- the fault of a word that is to state a length, in a list that begins at this byte, or this one of what follows
abbrev pub LengthFault : LengthUnit → ℕ → (Forest → DesignFault → Type 0) → Forest → DesignFault → Type 0
LengthFault u at Behind f e = NoWordOr (λ a text rest e. LengthWordFault u a text e ⊎ (StatesLength u text × Behind rest e)) at f e

-- the fault of a rectangle behind its layer
abbrev pub RectFault : LengthUnit → ℕ → Forest → DesignFault → Type 0
RectFault u at f e = LengthFault u at (LengthFault u at (LengthFault u at (LengthFault u at TrailFault))) f e
