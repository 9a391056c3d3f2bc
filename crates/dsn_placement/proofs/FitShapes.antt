-- The shapes of a library that is within the limits.
use Rattle.std.proofs.Common.{ℕ, List, [], ◌∷◌, length}
use Rattle.std.specs.List.{AllByRecursion}
use Rattle.board_items.specs.declared.items.Padstack.{Padstack}
use Rattle.dsn_shapes.specs.Limits.{AreFitDrawn}
use Rattle.dsn_library.specs.declared.images.Image.{Image}
use Rattle.dsn_library.specs.declared.images.ImagePart.{ImagePart}
use Rattle.dsn_library.specs.declared.images.ImagePart.TheVariants as parts
use Rattle.dsn_library.specs.declared.library.Library.{Library}
use Rattle.dsn_library.specs.Limits.{IsFitImagePart, IsFitImage, IsFitLibrary}

-- the shapes of a part of an image, where they are its own, are within the limits
abbrev pub IsFitPart : ℕ → ImagePart → Type 0
IsFitPart layers (parts.Pin stack id eighths at) = Unit {0}
IsFitPart layers (parts.Keep k shapes) = AreFitDrawn layers shapes

-- the shapes of padstacks and images are within the limits, on so many layers
pub record HasFitShapes (layers : ℕ) (l : Library) : Type 0 where
  pub stacks : AllByRecursion (λ (p : Padstack). AreFitDrawn layers p.shapes) l.stacks
  pub images : AllByRecursion (λ (m : Image). AllByRecursion (IsFitPart layers) m.parts) l.images

fit_own : (layers stacks ids : ℕ) (ps : List ImagePart) → AllByRecursion (IsFitImagePart layers stacks ids) ps → AllByRecursion (IsFitPart layers) ps
fit_own layers stacks ids [] h = tt
fit_own layers stacks ids (parts.Pin stack id eighths at ∷ ps) h = (tt, fit_own layers stacks ids ps h.1)
fit_own layers stacks ids (parts.Keep k shapes ∷ ps) h = (h.0, fit_own layers stacks ids ps h.1)

fit_all : (layers stacks : ℕ) (ms : List Image) → AllByRecursion (IsFitImage layers stacks) ms → AllByRecursion (λ (m : Image). AllByRecursion (IsFitPart layers) m.parts) ms
fit_all layers stacks [] h = tt
fit_all layers stacks (m ∷ ms) h = (fit_own layers stacks (length m.ids) m.parts h.0, fit_all layers stacks ms h.1)

pub fit_shapes : (layers : ℕ) (l : Library) → IsFitLibrary layers l → HasFitShapes layers l
fit_shapes layers l h = record { stacks = h.shapes; images = fit_all layers (length l.stacks) l.images h.images }
