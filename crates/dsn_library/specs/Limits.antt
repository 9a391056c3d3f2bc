-- A library within the limits.
use Rattle.std.specs.Prelude.{◌≡◌, ℕ, ◌≤◌, ◌<◌, length}
use Rattle.std.specs.List.{AllByRecursion}
use Rattle.row_lists.specs.Limits.{padstack_limit}
use Rattle.seg_geometry.specs.Points.{IsInRange}
use Rattle.board_items.specs.declared.items.Padstack.{Padstack}
use Rattle.dsn_shapes.specs.Limits.{AreFitDrawn}
use Rattle.dsn_library.specs.declared.images.Image.{Image}
use Rattle.dsn_library.specs.declared.images.ImagePart.{ImagePart}
use Rattle.dsn_library.specs.declared.images.ImagePart.TheVariants as parts
use Rattle.dsn_library.specs.declared.library.Library.{Library}

-- the shapes of a padstack are within the limits, on so many layers
abbrev pub IsFitStack : ℕ → Padstack → Type 0
IsFitStack layers p = AreFitDrawn layers p.shapes

-- a part of an image with so many ids, among so many padstacks: a pin has one of these and one of those, turns by less than
-- a whole turn and stands in range; the shapes of a keepout are within the limits
abbrev pub IsFitImagePart : ℕ → ℕ → ℕ → ImagePart → Type 0
IsFitImagePart layers stacks ids (parts.Pin stack id eighths at) = (stack < stacks) × (id < ids) × (eighths < 8) × IsInRange at
IsFitImagePart layers stacks ids (parts.Keep kind shapes) = AreFitDrawn layers shapes

-- the parts of an image are within the limits, among so many padstacks
abbrev pub IsFitImage : ℕ → ℕ → Image → Type 0
IsFitImage layers stacks m = AllByRecursion (IsFitImagePart layers stacks (length m.ids)) m.parts

-- at most 65,535 padstacks and any number of images, each with a name; all are within the limits, on so many layers
pub record IsFitLibrary (layers : ℕ) (l : Library) : Type 0 where
  pub few : length l.stacks ≤ padstack_limit
  pub names : length l.names ≡ length l.stacks
  pub shapes : AllByRecursion (IsFitStack layers) l.stacks
  pub image_names : length l.image_names ≡ length l.images
  pub images : AllByRecursion (IsFitImage layers (length l.stacks)) l.images
