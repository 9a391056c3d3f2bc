-- What a boundary states.
-- Models: the boundary descriptor of the SPECCTRA reference. Left out: the aperture of a boundary's shape, which is read and dropped.
use Rattle.std.specs.Prelude.{ℕ, List, [], ◌∷◌, ◌++◌, Ok, if◌then◌else◌}
use Rattle.sexp_text.specs.Forest.{Forest, End, Word, Branch}
use Rattle.sexp_text.specs.declared.units.Unit.{Unit as LengthUnit}
use Rattle.seg_geometry.specs.declared.points.Pt.{Pt}
use Rattle.dsn_lists.specs.declared.faults.DesignKind.TheVariants as kind
use Rattle.dsn_lists.specs.declared.marks.Mark.{Mark}
use Rattle.dsn_lists.specs.Results.{Read, ◌>>=◌, wrong, each}
use Rattle.dsn_lists.specs.Words.{word_of}
use Rattle.dsn_lists.specs.Layers.{is_every}
use Rattle.dsn_shapes.specs.declared.drawn.ShapeWord.{ShapeWord}
use Rattle.dsn_shapes.specs.declared.drawn.ShapeWord.TheVariants as shapes
use Rattle.dsn_shapes.specs.Rings.{opened, ring_of, rect_of}
use Rattle.dsn_shapes.specs.Drawn.{shape_word}

-- the layer word of an outline stands for every layer
unfoldable pub outline_layer : Mark → Read (Unit {0})
outline_layer w = if is_every w.name then Ok tt else wrong kind.Layer w.at

-- the points of a rectangle whose list begins at this byte
unfoldable pub rect_outline : LengthUnit → ℕ → Forest → Read (List Pt)
rect_outline u at f = do
  w ← word_of at f
  _ ← outline_layer w.0
  ps ← rect_of u at w.1
  Ok (opened ps)

-- the points of a polygon or a path whose list begins at this byte
unfoldable pub ring_outline : LengthUnit → ℕ → Forest → Read (List Pt)
ring_outline u at f = do
  w ← word_of at f
  _ ← outline_layer w.0
  r ← ring_of u at w.1
  Ok r.points

-- the points of a list of a boundary, by its keyword
abbrev pub outline_list : LengthUnit → ℕ → Mark → Forest → ShapeWord → Read (List Pt)
outline_list u at w f shapes.Circle = wrong kind.Shape w.at
outline_list u at w f shapes.Path = ring_outline u at f
outline_list u at w f shapes.Rect = rect_outline u at f
outline_list u at w f shapes.Polygon = ring_outline u at f
outline_list u at w f shapes.Arc = wrong kind.Arc w.at
outline_list u at w f shapes.Polyline = wrong kind.Polyline w.at
outline_list u at w f shapes.Window = wrong kind.Shape w.at
outline_list u at w f shapes.Other = wrong kind.Shape w.at

-- the points of a list of a boundary
unfoldable pub outline_of : LengthUnit → ℕ → Forest → Read (List Pt)
outline_of u at inside = word_of at inside >>= λ w. outline_list u at w.0 w.1 (shape_word w.0.name)

-- the areas that were read, and that of one more list
unfoldable pub outline_item : LengthUnit → List (List Pt) → ℕ → Forest → Read (List (List Pt))
outline_item u areas at inside = outline_of u at inside >>= λ ps. Ok (areas ++ ps ∷ [])

-- the areas that were read, and those of `(boundary <shape> ..)`, which has one shape or more
unfoldable pub outlines_of : LengthUnit → List (List Pt) → ℕ → Forest → Read (List (List Pt))
outlines_of u areas at End = wrong kind.Form at
outlines_of u areas at (Word a text rest) = wrong kind.Form a
outlines_of u areas at (Branch a inside rest) = each (outline_item u) areas (Branch a inside rest)
