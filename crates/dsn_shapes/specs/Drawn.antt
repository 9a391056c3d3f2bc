-- What lists at the place of a shape draw.
-- Models: the shape descriptors of the SPECCTRA reference. Left out: arcs, polyline paths and windows, which are refused.
use Rattle.std.specs.Prelude.{ℕ, zero, suc, nat_lt, min, List, [], ◌∷◌, ◌++◌, codes, length, Option, Some, None, Ok, if◌then◌else◌}
use Rattle.row_lists.specs.Limits.{layer_limit}
use Rattle.sexp_text.specs.Forest.{Forest, End, Word, Branch}
use Rattle.sexp_text.specs.declared.units.Unit.{Unit as LengthUnit}
use Rattle.area_geometry.specs.declared.shapes.Core.{Core}
use Rattle.area_geometry.specs.declared.shapes.Core.TheVariants.{Chain, Area}
use Rattle.area_geometry.specs.declared.shapes.Shape.{Shape}
use Rattle.dsn_lists.specs.declared.faults.DesignKind.TheVariants as kind
use Rattle.dsn_lists.specs.declared.marks.Mark.{Mark}
use Rattle.dsn_lists.specs.Results.{Read, ◌>>=◌, wrong, each}
use Rattle.dsn_lists.specs.Words.{same, word_of}
use Rattle.dsn_lists.specs.Layers.{some_layer}
use Rattle.dsn_lists.specs.Shapes.{path_of, circle_of}
use Rattle.dsn_shapes.specs.declared.drawn.ShapeWord.{ShapeWord}
use Rattle.dsn_shapes.specs.declared.drawn.ShapeWord.TheVariants as shapes
use Rattle.dsn_shapes.specs.Rings.{ring_of, rect_of}

abbrev pub shape_on : ℕ → Core → ℕ → Shape
shape_on layer core width = record { layer = layer; core = core; width = width }

-- the shape on each of so many layers, in order
unfoldable pub on_each : ℕ → Core → ℕ → List Shape
on_each zero core width = []
on_each (suc n) core width = on_each n core width ++ shape_on n core width ∷ []

-- the shape on the layer that is named, or on each of so many; of layers beyond the 32nd on none
abbrev pub on_layers : ℕ → Option ℕ → Core → ℕ → List Shape
on_layers count (Some n) core width = if nat_lt n layer_limit then shape_on n core width ∷ [] else []
on_layers count None core width = on_each (min count layer_limit) core width

-- what stands at the place of a shape
unfoldable pub shape_word : List ℕ → ShapeWord
shape_word text =
    if same text (codes "circle") then shapes.Circle else
    if same text (codes "path") then shapes.Path else
    if same text (codes "rect") then shapes.Rect else
    if same text (codes "polygon") then shapes.Polygon else
    if same text (codes "qarc") then shapes.Arc else
    if same text (codes "polyline_path") then shapes.Polyline else
    if same text (codes "window") then shapes.Window else shapes.Other

-- the shapes of a circle whose list begins at this byte
unfoldable pub circles : LengthUnit → List (List ℕ) → ℕ → Forest → Read (List Shape)
circles u layers at f = do
  w ← word_of at f
  n ← some_layer layers w.0
  c ← circle_of u at w.1
  Ok (on_layers (length layers) n (Chain (c.centre ∷ [])) c.width)

-- the shapes of a path whose list begins at this byte
unfoldable pub paths : LengthUnit → List (List ℕ) → ℕ → Forest → Read (List Shape)
paths u layers at f = do
  w ← word_of at f
  n ← some_layer layers w.0
  p ← path_of u at w.1
  Ok (on_layers (length layers) n (Chain p.points) p.width)

-- the shapes of a rectangle whose list begins at this byte
unfoldable pub rects : LengthUnit → List (List ℕ) → ℕ → Forest → Read (List Shape)
rects u layers at f = do
  w ← word_of at f
  n ← some_layer layers w.0
  ps ← rect_of u at w.1
  Ok (on_layers (length layers) n (Area ps) 0)

-- the shapes of a polygon whose list begins at this byte
unfoldable pub polygons : LengthUnit → List (List ℕ) → ℕ → Forest → Read (List Shape)
polygons u layers at f = do
  w ← word_of at f
  n ← some_layer layers w.0
  r ← ring_of u at w.1
  Ok (on_layers (length layers) n (Area r.points) r.width)

-- the shapes that were read, and more
abbrev pub behind : List Shape → Read (List Shape) → Read (List Shape)
behind ss more = more >>= λ xs. Ok (ss ++ xs)

-- the shapes of a list at the place of a shape, by its keyword
abbrev pub shape_list : LengthUnit → List (List ℕ) → ℕ → Mark → Forest → ShapeWord → Read (List Shape)
shape_list u layers at w f shapes.Circle = circles u layers at f
shape_list u layers at w f shapes.Path = paths u layers at f
shape_list u layers at w f shapes.Rect = rects u layers at f
shape_list u layers at w f shapes.Polygon = polygons u layers at f
shape_list u layers at w f shapes.Arc = wrong kind.Arc w.at
shape_list u layers at w f shapes.Polyline = wrong kind.Polyline w.at
shape_list u layers at w f shapes.Window = wrong kind.Window w.at
shape_list u layers at w f shapes.Other = wrong kind.Shape w.at

-- the shapes that were read, and those of one more list
unfoldable pub shape_item : LengthUnit → List (List ℕ) → List Shape → ℕ → Forest → Read (List Shape)
shape_item u layers ss at inside = do
  w ← word_of at inside
  behind ss (shape_list u layers at w.0 w.1 (shape_word w.0.name))

-- the lists of `(shape <shape> ..)`, of which there is one or more
unfoldable pub shapes_of : LengthUnit → List (List ℕ) → List Shape → ℕ → Forest → Read (List Shape)
shapes_of u layers ss at End = wrong kind.Form at
shapes_of u layers ss at (Word a text rest) = wrong kind.Form a
shapes_of u layers ss at (Branch a inside rest) = each (shape_item u layers) ss (Branch a inside rest)
