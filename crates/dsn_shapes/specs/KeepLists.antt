-- What a keepout is, and what is wrong with a list that is none.
-- Models: the keepout descriptors of the SPECCTRA reference. Left out: their rules, which are read over.
use Rattle.std.specs.Prelude.{◌≡◌, ℕ, ◌⊎◌, List}
use Rattle.sexp_text.specs.Forest.{Forest, End, Word, Branch}
use Rattle.sexp_text.specs.declared.units.Unit.{Unit as LengthUnit}
use Rattle.area_geometry.specs.declared.shapes.Shape.{Shape}
use Rattle.dsn_lists.specs.declared.faults.DesignFault.{DesignFault}
use Rattle.dsn_lists.specs.declared.faults.DesignKind.TheVariants as kind
use Rattle.dsn_lists.specs.Words.{Heading, head_of}
use Rattle.dsn_lists.specs.Lists.{Every, told, IsFirst}
use Rattle.dsn_shapes.specs.declared.drawn.ShapeWord.{ShapeWord}
use Rattle.dsn_shapes.specs.declared.drawn.ShapeWord.TheVariants as shapes
use Rattle.dsn_shapes.specs.Drawn.{shape_word}
use Rattle.dsn_shapes.specs.DrawnLists.{Draws, ShapeFault}

-- ---- lists behind the shape

-- by its keyword a list is no shape
abbrev pub IsOfNoShape : ShapeWord → Type 0
IsOfNoShape shapes.Other = Unit {0}
IsOfNoShape _ = ⊥

-- a list that is no shape
abbrev pub IsNoShape : ℕ → Forest → Type 0
IsNoShape at inside = IsOfNoShape (shape_word (head_of inside).text)

-- what is wrong with a list that begins at this byte behind the shape, by its keyword
abbrev pub OfSecondFault : ℕ → Heading → ShapeWord → DesignFault → Type 0
OfSecondFault at h shapes.Circle e = e ≡ told kind.Form at
OfSecondFault at h shapes.Path e = e ≡ told kind.Form at
OfSecondFault at h shapes.Rect e = e ≡ told kind.Form at
OfSecondFault at h shapes.Polygon e = e ≡ told kind.Form at
OfSecondFault at h shapes.Arc e = e ≡ told kind.Arc h.at
OfSecondFault at h shapes.Polyline e = e ≡ told kind.Polyline h.at
OfSecondFault at h shapes.Window e = e ≡ told kind.Window h.at
OfSecondFault at h shapes.Other e = ⊥

-- the fault of a list behind the shape: it is a second one
abbrev pub SecondFault : Forest → ℕ → Forest → DesignFault → Type 0
SecondFault before at inside e = OfSecondFault at (head_of inside) (shape_word (head_of inside).text) e

-- ---- `(keepout [<id>] <shape> ..)`

-- behind the id: one shape, and lists that are none
abbrev pub IsKept : LengthUnit → List (List ℕ) → Forest → List Shape → Type 0
IsKept u layers End ss = ⊥
IsKept u layers (Word a text rest) ss = ⊥
IsKept u layers (Branch a inside rest) ss = Draws u layers inside ss × Every IsNoShape rest

-- behind its keyword: an id or none, one shape, and lists that are none
abbrev pub IsKeepout : LengthUnit → List (List ℕ) → Forest → List Shape → Type 0
IsKeepout u layers End ss = ⊥
IsKeepout u layers (Word a text rest) ss = IsKept u layers rest ss
IsKeepout u layers (Branch a inside rest) ss = IsKept u layers (Branch a inside rest) ss

-- a list that draws something
abbrev pub DrawsSome : LengthUnit → List (List ℕ) → Forest → Type 0
DrawsSome u layers inside = (ss : List Shape) × Draws u layers inside ss

-- the fault behind the id of a keepout that begins at this byte
abbrev pub KeptFault : LengthUnit → List (List ℕ) → ℕ → Forest → DesignFault → Type 0
KeptFault u layers at End e = e ≡ told kind.Form at
KeptFault u layers at (Word a text rest) e = e ≡ told kind.Form a
KeptFault u layers at (Branch a inside rest) e = ShapeFault u layers End a inside e ⊎ (DrawsSome u layers inside × IsFirst (Every IsNoShape) SecondFault rest e)

-- the fault of a keepout that begins at this byte
abbrev pub KeepoutFault : LengthUnit → List (List ℕ) → ℕ → Forest → DesignFault → Type 0
KeepoutFault u layers at End e = e ≡ told kind.Form at
KeepoutFault u layers at (Word a text rest) e = KeptFault u layers at rest e
KeepoutFault u layers at (Branch a inside rest) e = KeptFault u layers at (Branch a inside rest) e
