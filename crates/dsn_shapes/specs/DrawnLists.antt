-- What lists at the place of a shape draw, and what is wrong with one that draws nothing.
-- Models: the shape descriptors of the SPECCTRA reference. Left out: arcs, polyline paths and windows, which are refused.
use Rattle.std.specs.Prelude.{◌≡◌, ℕ, ◌⊎◌, List, [], ◌∷◌, length, Option}
use Rattle.sexp_text.specs.Forest.{Forest, End, Word, Branch}
use Rattle.sexp_text.specs.declared.units.Unit.{Unit as LengthUnit}
use Rattle.area_geometry.specs.declared.shapes.Core.{Core}
use Rattle.area_geometry.specs.declared.shapes.Core.TheVariants.{Chain, Area}
use Rattle.area_geometry.specs.declared.shapes.Shape.{Shape}
use Rattle.dsn_lists.specs.declared.faults.DesignFault.{DesignFault}
use Rattle.dsn_lists.specs.declared.faults.DesignKind.TheVariants as kind
use Rattle.dsn_lists.specs.Lists.{Joins, told, IsFirst}
use Rattle.dsn_lists.specs.ShortLists.{HasWord, NoWordOr}
use Rattle.dsn_lists.specs.PointWords.{NamesLayer, LayerWordFault}
use Rattle.dsn_lists.specs.ShapeLists.{IsPath, PathFault, IsCircle, CircleFault}
use Rattle.dsn_shapes.specs.declared.drawn.ShapeWord.{ShapeWord}
use Rattle.dsn_shapes.specs.declared.drawn.ShapeWord.TheVariants as shapes
use Rattle.dsn_shapes.specs.Drawn.{on_layers, shape_word}
use Rattle.dsn_shapes.specs.RectLists.{IsRect, RectFault}
use Rattle.dsn_shapes.specs.RingLists.{IsRing, RingFault}

-- ---- a shape

-- what is stated behind the word of a layer, as a shape on that layer, or on each in order
pub record IsDrawn {A : Type 0} (States : Forest → A → Type 0) (core : A → Core) (width : A → ℕ) (layers : List (List ℕ)) (layer : List ℕ) (f : Forest) (ss : List Shape) : Type 0 where
  pub on : Option ℕ
  pub it : A
  pub layer_is : NamesLayer layers layer on
  pub stated : States f it
  pub shapes : ss ≡ on_layers (length layers) on (core it) (width it)

-- the word of a layer stands first, and what follows is drawn there
abbrev pub DrawsIt : {A : Type 0} → (Forest → A → Type 0) → (A → Core) → (A → ℕ) → List (List ℕ) → Forest → List Shape → Type 0
DrawsIt States core width layers f ss = HasWord (λ layer rest. IsDrawn States core width layers layer rest ss) f

-- the shapes of what stands at the place of a shape, by its keyword
abbrev pub DrawsBy : LengthUnit → List (List ℕ) → ShapeWord → Forest → List Shape → Type 0
DrawsBy u layers shapes.Circle f ss = DrawsIt (IsCircle u) (λ c. Chain (c.centre ∷ [])) (λ c. c.width) layers f ss
DrawsBy u layers shapes.Path f ss = DrawsIt (IsPath u) (λ p. Chain p.points) (λ p. p.width) layers f ss
DrawsBy u layers shapes.Rect f ss = DrawsIt (IsRect u) (λ ps. Area ps) (λ ps. 0) layers f ss
DrawsBy u layers shapes.Polygon f ss = DrawsIt (IsRing u) (λ r. Area r.points) (λ r. r.width) layers f ss
DrawsBy u layers _ f ss = ⊥

-- a list at the place of a shape draws these
abbrev pub Draws : LengthUnit → List (List ℕ) → Forest → List Shape → Type 0
Draws u layers inside ss = HasWord (λ text rest. DrawsBy u layers (shape_word text) rest ss) inside

-- the word names a layer, or stands for every layer
abbrev pub StatesLayer : List (List ℕ) → List ℕ → Type 0
StatesLayer layers text = (on : Option ℕ) × NamesLayer layers text on

-- the fault of the word of a layer in a list that begins at this byte, or this one of what follows
abbrev pub OnLayerFault : List (List ℕ) → ℕ → (Forest → DesignFault → Type 0) → Forest → DesignFault → Type 0
OnLayerFault layers at Behind f e = NoWordOr (λ a text rest e. LayerWordFault layers a text e ⊎ (StatesLayer layers text × Behind rest e)) at f e

-- the fault of a shape that begins at this byte, with its keyword at that one, by the keyword
abbrev pub DrawsByFault : LengthUnit → List (List ℕ) → ℕ → ℕ → ShapeWord → Forest → DesignFault → Type 0
DrawsByFault u layers at key shapes.Circle f e = OnLayerFault layers at (CircleFault u at) f e
DrawsByFault u layers at key shapes.Path f e = OnLayerFault layers at (PathFault u at) f e
DrawsByFault u layers at key shapes.Rect f e = OnLayerFault layers at (RectFault u at) f e
DrawsByFault u layers at key shapes.Polygon f e = OnLayerFault layers at (RingFault u at) f e
DrawsByFault u layers at key shapes.Arc f e = e ≡ told kind.Arc key
DrawsByFault u layers at key shapes.Polyline f e = e ≡ told kind.Polyline key
DrawsByFault u layers at key shapes.Window f e = e ≡ told kind.Window key
DrawsByFault u layers at key shapes.Other f e = e ≡ told kind.Shape key

-- the fault of a list at the place of a shape
abbrev pub ShapeFault : LengthUnit → List (List ℕ) → Forest → ℕ → Forest → DesignFault → Type 0
ShapeFault u layers before at inside e = NoWordOr (λ a text rest e. DrawsByFault u layers at a (shape_word text) rest e) at inside e

-- ---- `(shape <shape> ..)`

-- lists that draw something
abbrev pub AllDraw : LengthUnit → List (List ℕ) → Forest → Type 0
AllDraw u layers f = (ss : List Shape) × Joins (Draws u layers) f ss

-- behind its keyword: one shape or more, in order
abbrev pub IsShapeList : LengthUnit → List (List ℕ) → Forest → List Shape → Type 0
IsShapeList u layers End ss = ⊥
IsShapeList u layers (Word a text rest) ss = ⊥
IsShapeList u layers (Branch a inside rest) ss = Joins (Draws u layers) (Branch a inside rest) ss

-- the fault of a list of shapes that begins at this byte
abbrev pub ShapeListFault : LengthUnit → List (List ℕ) → ℕ → Forest → DesignFault → Type 0
ShapeListFault u layers at End e = e ≡ told kind.Form at
ShapeListFault u layers at (Word a text rest) e = e ≡ told kind.Form a
ShapeListFault u layers at (Branch a inside rest) e = IsFirst (AllDraw u layers) (ShapeFault u layers) (Branch a inside rest) e
