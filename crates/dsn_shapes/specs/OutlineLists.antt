-- What a boundary is, and what is wrong with a list that is none.
-- Models: the boundary descriptor of the SPECCTRA reference. Left out: the aperture of a boundary's shape, which is read and dropped.
use Rattle.std.specs.Prelude.{◌≡◌, ℕ, ◌⊎◌, true, false, List, [], ◌∷◌}
use Rattle.sexp_text.specs.Forest.{Forest, End, Word, Branch}
use Rattle.sexp_text.specs.declared.units.Unit.{Unit as LengthUnit}
use Rattle.seg_geometry.specs.declared.points.Pt.{Pt}
use Rattle.dsn_lists.specs.declared.faults.DesignFault.{DesignFault}
use Rattle.dsn_lists.specs.declared.faults.DesignKind.TheVariants as kind
use Rattle.dsn_lists.specs.Layers.{is_every}
use Rattle.dsn_lists.specs.Lists.{Joins, told, IsFirst}
use Rattle.dsn_lists.specs.ShortLists.{HasWord, NoWordOr}
use Rattle.dsn_shapes.specs.declared.rings.Ring.{Ring}
use Rattle.dsn_shapes.specs.declared.drawn.ShapeWord.{ShapeWord}
use Rattle.dsn_shapes.specs.declared.drawn.ShapeWord.TheVariants as shapes
use Rattle.dsn_shapes.specs.Drawn.{shape_word}
use Rattle.dsn_shapes.specs.RectLists.{IsRect, RectFault}
use Rattle.dsn_shapes.specs.RingLists.{IsRingOf, IsRing, RingFault}

-- ---- an outline

-- a word that stands for every layer stands first, and this holds of what follows
abbrev pub OnEvery : (Forest → Type 0) → Forest → Type 0
OnEvery Holds f = HasWord (λ layer rest. (is_every layer ≡ true) × Holds rest) f

-- the area by its keyword: that of a polygon or a path is its ring, that of a rectangle the ring of its corners
abbrev pub IsAreaBy : LengthUnit → ShapeWord → Forest → List Pt → Type 0
IsAreaBy u shapes.Path f ps = OnEvery (λ rest. (r : Ring) × IsRing u rest r × (ps ≡ r.points)) f
IsAreaBy u shapes.Polygon f ps = OnEvery (λ rest. (r : Ring) × IsRing u rest r × (ps ≡ r.points)) f
IsAreaBy u shapes.Rect f ps = OnEvery (λ rest. (corners : List Pt) × IsRect u rest corners × IsRingOf corners ps) f
IsAreaBy u _ f ps = ⊥

-- a list that states an area of an outline, by what stands in it
abbrev pub IsArea : LengthUnit → Forest → List Pt → Type 0
IsArea u inside ps = HasWord (λ text rest. IsAreaBy u (shape_word text) rest ps) inside

-- a list of a boundary states its one area
abbrev pub StatesArea : LengthUnit → Forest → List (List Pt) → Type 0
StatesArea u inside areas = (ps : List Pt) × IsArea u inside ps × (areas ≡ ps ∷ [])

-- the fault of the word of a layer in a list that begins at this byte, or this one of what follows
abbrev pub OnEveryFault : ℕ → (Forest → DesignFault → Type 0) → Forest → DesignFault → Type 0
OnEveryFault at Behind f e = NoWordOr (λ a text rest e. ((is_every text ≡ false) × (e ≡ told kind.Layer a)) ⊎ ((is_every text ≡ true) × Behind rest e)) at f e

-- the fault of a list of a boundary that begins at this byte, with its keyword at that one, by the keyword
abbrev pub AreaByFault : LengthUnit → ℕ → ℕ → ShapeWord → Forest → DesignFault → Type 0
AreaByFault u at key shapes.Circle f e = e ≡ told kind.Shape key
AreaByFault u at key shapes.Path f e = OnEveryFault at (RingFault u at) f e
AreaByFault u at key shapes.Rect f e = OnEveryFault at (RectFault u at) f e
AreaByFault u at key shapes.Polygon f e = OnEveryFault at (RingFault u at) f e
AreaByFault u at key shapes.Arc f e = e ≡ told kind.Arc key
AreaByFault u at key shapes.Polyline f e = e ≡ told kind.Polyline key
AreaByFault u at key shapes.Window f e = e ≡ told kind.Shape key
AreaByFault u at key shapes.Other f e = e ≡ told kind.Shape key

-- the fault of a list of a boundary
abbrev pub AreaFault : LengthUnit → Forest → ℕ → Forest → DesignFault → Type 0
AreaFault u before at inside e = NoWordOr (λ a text rest e. AreaByFault u at a (shape_word text) rest e) at inside e

-- ---- `(boundary <shape> ..)`

-- lists that state areas
abbrev pub AllAreas : LengthUnit → Forest → Type 0
AllAreas u f = (areas : List (List Pt)) × Joins (StatesArea u) f areas

-- behind its keyword: one area or more, in order
abbrev pub IsBoundary : LengthUnit → Forest → List (List Pt) → Type 0
IsBoundary u End areas = ⊥
IsBoundary u (Word a text rest) areas = ⊥
IsBoundary u (Branch a inside rest) areas = Joins (StatesArea u) (Branch a inside rest) areas

-- the fault of a boundary that begins at this byte
abbrev pub BoundaryFault : LengthUnit → ℕ → Forest → DesignFault → Type 0
BoundaryFault u at End e = e ≡ told kind.Form at
BoundaryFault u at (Word a text rest) e = e ≡ told kind.Form a
BoundaryFault u at (Branch a inside rest) e = IsFirst (AllAreas u) (AreaFault u) (Branch a inside rest) e
