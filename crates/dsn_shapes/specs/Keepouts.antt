-- What keepouts state.
-- Models: the keepout descriptors of the SPECCTRA reference. Left out: their rules, which are read over.
use Rattle.std.specs.Prelude.{ℕ, List, [], codes, Option, Some, None, Ok, if◌then◌else◌}
use Rattle.sexp_text.specs.Forest.{Forest, End, Word, Branch}
use Rattle.sexp_text.specs.declared.units.Unit.{Unit as LengthUnit}
use Rattle.area_geometry.specs.declared.shapes.Shape.{Shape}
use Rattle.board_items.specs.declared.items.KeepKind.{KeepKind}
use Rattle.board_items.specs.declared.items.KeepKind.TheVariants as keeps
use Rattle.dsn_lists.specs.declared.faults.DesignKind.TheVariants as kind
use Rattle.dsn_lists.specs.Results.{Read, ◌>>=◌, wrong, each}
use Rattle.dsn_lists.specs.Words.{Heading, same, head_of}
use Rattle.dsn_shapes.specs.declared.drawn.ShapeWord.{ShapeWord}
use Rattle.dsn_shapes.specs.declared.drawn.ShapeWord.TheVariants as shapes
use Rattle.dsn_shapes.specs.Drawn.{shape_word, shape_item}

-- what a keepout of this keyword bars; none for a word that begins no keepout
unfoldable pub keep_kind : List ℕ → Option KeepKind
keep_kind text =
    if same text (codes "keepout") then Some keeps.All else
    if same text (codes "via_keepout") then Some keeps.Vias else
    if same text (codes "wire_keepout") then Some keeps.Wires else None

-- a list behind the shape of a keepout, by its keyword
abbrev pub after_list : ℕ → Heading → ShapeWord → Read (Unit {0})
after_list at h shapes.Circle = wrong kind.Form at
after_list at h shapes.Path = wrong kind.Form at
after_list at h shapes.Rect = wrong kind.Form at
after_list at h shapes.Polygon = wrong kind.Form at
after_list at h shapes.Arc = wrong kind.Arc h.at
after_list at h shapes.Polyline = wrong kind.Polyline h.at
after_list at h shapes.Window = wrong kind.Window h.at
after_list at h shapes.Other = Ok tt

-- a list behind the shape of a keepout, which is not a second shape
unfoldable pub after_item : Unit {0} → ℕ → Forest → Read (Unit {0})
after_item x at inside = after_list at (head_of inside) (shape_word (head_of inside).text)

-- the shapes of a keepout that begins at this byte, behind its id
unfoldable pub kept_of : LengthUnit → List (List ℕ) → ℕ → Forest → Read (List Shape)
kept_of u layers at End = wrong kind.Form at
kept_of u layers at (Word a text rest) = wrong kind.Form a
kept_of u layers at (Branch a inside rest) = do
  ss ← shape_item u layers [] a inside
  _ ← each after_item tt rest
  Ok ss

-- what follows a word that may stand first
unfoldable pub behind_id : Forest → Forest
behind_id End = End
behind_id (Word a text rest) = rest
behind_id (Branch a inside rest) = Branch a inside rest

-- the shapes of `(keepout [<id>] <shape> ..)`, which begins at this byte
unfoldable pub keep_shapes : LengthUnit → List (List ℕ) → ℕ → Forest → Read (List Shape)
keep_shapes u layers at f = kept_of u layers at (behind_id f)
