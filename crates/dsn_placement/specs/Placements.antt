-- What the lists of the placement section state.
-- Models: the placement, component and place descriptors of the SPECCTRA reference. Own to this profile: the order in which
-- a part on the back is mirrored and turned, and that `place_control` states it.
use Rattle.std.specs.Prelude.{ℕ, List, [], ◌∷◌, ◌++◌, codes, length, slice_get, Option, Some, None, Ok, if◌then◌else◌}
use Rattle.sexp_text.specs.Forest.{Forest, End, Word, Branch}
use Rattle.sexp_text.specs.declared.units.Unit.{Unit as LengthUnit}
use Rattle.seg_geometry.specs.declared.points.Pt.{Pt}
use Rattle.area_geometry.specs.declared.shapes.Shape.{Shape}
use Rattle.board_items.specs.declared.items.Padstack.{Padstack}
use Rattle.board_items.specs.Shapes.{shapes_of}
use Rattle.dsn_turns.specs.declared.turns.Flip.{Flip}
use Rattle.dsn_turns.specs.declared.turns.Flip.TheVariants.{Plain}
use Rattle.dsn_turns.specs.declared.moves.Motion.{Motion}
use Rattle.dsn_turns.specs.Turning.{carried, shapes_moved}
use Rattle.dsn_turns.specs.Wides.{wide_of}
use Rattle.dsn_lists.specs.declared.faults.DesignKind.TheVariants as kind
use Rattle.dsn_lists.specs.declared.marks.Mark.{Mark}
use Rattle.dsn_lists.specs.Results.{Read, ◌>>=◌, wrong}
use Rattle.dsn_lists.specs.Words.{same, mark, word_of, spare}
use Rattle.dsn_lists.specs.Shapes.{point_of}
use Rattle.dsn_lists.specs.NewNames.{fresh_name}
use Rattle.dsn_shapes.specs.declared.quotas.Quota.{Quota}
use Rattle.dsn_shapes.specs.Quotas.{quota_behind}
use Rattle.dsn_library.specs.declared.images.Image.{Image}
use Rattle.dsn_library.specs.declared.images.ImagePart.{ImagePart}
use Rattle.dsn_library.specs.declared.images.ImagePart.TheVariants as parts
use Rattle.dsn_placement.specs.declared.placement.PlacedPart.{PlacedPart}
use Rattle.dsn_placement.specs.declared.placement.PlacedPart.TheVariants as placed
use Rattle.dsn_placement.specs.declared.placement.Placement.{Placement}
use Rattle.dsn_placement.specs.declared.poses.Side.{Side}
use Rattle.dsn_placement.specs.declared.poses.Side.TheVariants.{Front, Back}
use Rattle.dsn_placement.specs.declared.poses.Pose.{Pose}
use Rattle.dsn_placement.specs.declared.place_parts.Setting.{Setting}
use Rattle.dsn_library.specs.Images.{angle_word}

-- ---- `(place <id> [x y front|back <angle>] ..)`

unfoldable pub side_named : List ℕ → Option Side
side_named text =
    if same text (codes "front") then Some Front else
    if same text (codes "back") then Some Back else None

abbrev pub known_side : ℕ → Option Side → Read Side
known_side at None = wrong kind.Style at
known_side at (Some s) = Ok s

-- where a component is, behind the word of its x, and what follows
unfoldable pub pose_from : LengthUnit → ℕ → Mark → Forest → Read (Pose × Forest)
pose_from u at w f = do
  p ← point_of u at w f
  s ← word_of at p.1
  side ← known_side s.0.at (side_named s.0.name)
  a ← word_of at s.1
  eighths ← angle_word a.0
  Ok (record { at = p.0; side = side; eighths = eighths }, a.1)

abbrev pub some_pose : Pose × Forest → Option Pose × Forest
some_pose x = (Some x.0, x.1)

-- where a component is, where words say it, and what follows
unfoldable pub pose_of : LengthUnit → ℕ → Forest → Read (Option Pose × Forest)
pose_of u at End = Ok (None, End)
pose_of u at (Word a text rest) = pose_from u at (mark a text) rest >>= λ x. Ok (some_pose x)
pose_of u at (Branch a inside rest) = Ok (None, Branch a inside rest)

-- the name of a component behind components of these names, and where it is
unfoldable pub place_of_list : LengthUnit → List (List ℕ) → ℕ → Forest → Read (List ℕ × Option Pose)
place_of_list u names at f = do
  w ← word_of at f
  _ ← fresh_name names w.0
  x ← pose_of u at w.1
  _ ← spare x.1
  Ok (w.0.name, x.0)

-- ---- the pads and keepouts of a component

abbrev pub flip_on : Side → Flip → Flip
flip_on Front flip = Plain
flip_on Back flip = flip

-- a part on the back lies on the board of so many layers turned over
abbrev pub over_on : Side → ℕ → Option ℕ
over_on Front layers = None
over_on Back layers = Some layers

-- the turn and the move of a pin in its image
abbrev pub step_of_pin : ℕ → Pt → Motion
step_of_pin eighths at = record { eighths = eighths; flip = Plain; by = at }

-- the turn and the move of a component
abbrev pub step_of_pose : Flip → Pose → Motion
step_of_pose flip p = record { eighths = p.eighths; flip = flip_on p.side flip; by = p.at }

-- how the components of a board lie: how the back is mirrored, on how many layers, and with what padstacks
pub record Ground : Type 0 where
  pub flip : Flip
  pub layers : ℕ
  pub stacks : List Padstack

abbrev pub ground_of : Setting → Ground
ground_of s = record { flip = s.flip; layers = s.layers; stacks = s.stacks.now }

-- the shapes of a part of an image at their place; none where a point is out of range
unfoldable pub shapes_placed : Ground → Pose → ImagePart → Option (List Shape)
shapes_placed g p (parts.Pin stack id eighths at) = shapes_moved (step_of_pin eighths at ∷ step_of_pose g.flip p ∷ []) (over_on p.side g.layers) (shapes_of (slice_get g.stacks stack))
shapes_placed g p (parts.Keep k ss) = shapes_moved (step_of_pose g.flip p ∷ []) (over_on p.side g.layers) ss

-- a part of the image of the component of this number, with its shapes at their place; a pin lies where this step of the
-- component carries it
abbrev pub part_placed : Motion → ℕ → ImagePart → List Shape → PlacedPart
part_placed step component (parts.Pin stack id eighths at) ss = placed.Pad component id (wide_of (carried step at)) ss
part_placed step component (parts.Keep k shapes) ss = placed.Keep k ss

-- the placement with one more pad or keepout, where there is room for it
abbrev pub put_placed : ℕ → Placement → PlacedPart → Option Quota → Read Placement
put_placed at pl x None = wrong kind.Large at
put_placed at pl x (Some quota) = Ok (record pl { parts = pl.parts ++ x ∷ []; quota = quota })

abbrev pub with_shapes : Motion → ℕ → ℕ → Placement → ImagePart → Option (List Shape) → Read Placement
with_shapes step at component pl q None = wrong kind.Range at
with_shapes step at component pl q (Some ss) = put_placed at pl (part_placed step component q ss) (quota_behind pl.quota ss)

-- the placement with one more part of a component, told at this byte where it can't be
unfoldable pub with_part : Ground → Pose → ℕ → ℕ → Placement → ImagePart → Read Placement
with_part g p at component pl q = with_shapes (step_of_pose g.flip p) at component pl q (shapes_placed g p q)

-- the placement with the parts of a component
unfoldable pub with_parts : Ground → Pose → ℕ → ℕ → Placement → List ImagePart → Read Placement
with_parts g p at component pl [] = Ok pl
with_parts g p at component pl (q ∷ qs) = with_part g p at component pl q >>= λ x. with_parts g p at component x qs

abbrev pub parts_of : Option Image → List ImagePart
parts_of None = []
parts_of (Some m) = m.parts

-- a component that is placed has the parts of its image; one that is unplaced has none
abbrev pub posed : Ground → Option Pose → ℕ → ℕ → Placement → List ImagePart → Read Placement
posed g None at component pl qs = Ok pl
posed g (Some p) at component pl qs = with_parts g p at component pl qs

-- the placement with one more component of this name and image, the image being given by its number
abbrev pub with_component : Placement → List ℕ → ℕ → Placement
with_component pl name image = record pl { components = pl.components ++ name ∷ []; images = pl.images ++ image ∷ [] }

-- the placement with the component of a `place` list that begins at this byte
unfoldable pub with_place : LengthUnit → Ground → List Image → ℕ → Placement → ℕ → Forest → Read Placement
with_place u g images image pl at f = do
  x ← place_of_list u pl.components at f
  posed g x.1 at (length pl.components) (with_component pl x.0 image) (parts_of (slice_get images image))
