-- What an image stands for, said of its whole lists, and what is wrong with one that stands for nothing.
-- Models: the image descriptor of the SPECCTRA reference.
use Rattle.std.specs.Prelude.{◌≡◌, ℕ, ◌⊎◌, true, false, List, [], ◌∷◌, Some}
use Rattle.sexp_text.specs.Forest.{Forest, Word}
use Rattle.sexp_text.specs.declared.units.Unit.{Unit as LengthUnit}
use Rattle.area_geometry.specs.declared.shapes.Shape.{Shape}
use Rattle.dsn_lists.specs.declared.faults.DesignFault.{DesignFault}
use Rattle.dsn_lists.specs.declared.faults.DesignKind.TheVariants as kind
use Rattle.dsn_lists.specs.Names.{is_among, place_of}
use Rattle.dsn_lists.specs.Words.{head_of}
use Rattle.dsn_lists.specs.Lists.{collect, Every, told, IsFirst}
use Rattle.dsn_lists.specs.ShortLists.{HasWord, NoWordOr}
use Rattle.dsn_lists.specs.Measures.{IsUnitList, UnitListFault, governing_unit}
use Rattle.dsn_shapes.specs.NameLists.{each_once}
use Rattle.dsn_shapes.specs.KeepLists.{IsKeepout, KeepoutFault}
use Rattle.dsn_library.specs.declared.images.Image.{Image}
use Rattle.dsn_library.specs.declared.images.ImagePart.{ImagePart}
use Rattle.dsn_library.specs.declared.images.ImagePart.TheVariants as parts
use Rattle.dsn_library.specs.declared.image_lists.ImageWord.{ImageWord}
use Rattle.dsn_library.specs.declared.image_lists.ImageWord.TheVariants as words
use Rattle.dsn_library.specs.Images.{PinWords, image_word}
use Rattle.dsn_library.specs.ImageLists.{IsPin, PinFault, behind_lists}
use Rattle.dsn_lists.specs.NewNames.{first_name}

-- ---- the lists of an image

-- what a list of an image has to be, by its keyword
abbrev pub IsOfImage : LengthUnit → List (List ℕ) → List (List ℕ) → ImageWord → Forest → Type 0
IsOfImage u layers stacks words.Pin f = (p : PinWords) × IsPin u stacks f p
IsOfImage u layers stacks (words.Keep k) f = (ss : List Shape) × IsKeepout u layers f ss
IsOfImage u layers stacks words.Unit f = IsUnitList f
IsOfImage u layers stacks words.Other f = Unit {0}

-- a list that can stand in an image
abbrev pub IsImageList : LengthUnit → List (List ℕ) → List (List ℕ) → ℕ → Forest → Type 0
IsImageList u layers stacks at inside = IsOfImage u layers stacks (image_word (head_of inside).text) (head_of inside).args

-- the id, of a pin: the word behind its padstack and the lists that follow
abbrev pub id_of_list : ImageWord → Forest → List (List ℕ)
id_of_list words.Pin (Word at stack rest) = first_name (behind_lists rest)
id_of_list _ f = []

-- the id of the pin that a list states
abbrev pub ids_in : ℕ → Forest → List (List ℕ)
ids_in at inside = id_of_list (image_word (head_of inside).text) (head_of inside).args

-- a pin or a keepout of an image whose pins have these ids, of a list with this keyword
abbrev pub IsPart : LengthUnit → List (List ℕ) → List (List ℕ) → List (List ℕ) → ImageWord → Forest → ImagePart → Type 0
IsPart u layers stacks ids words.Pin f part = (p : PinWords) × IsPin u stacks f p × (n : ℕ) × (place_of ids p.id ≡ Some n) × (part ≡ parts.Pin p.stack n p.eighths p.at)
IsPart u layers stacks ids (words.Keep k) f part = (ss : List Shape) × IsKeepout u layers f ss × (part ≡ parts.Keep k ss)
IsPart u layers stacks ids _ f part = ⊥

-- the keyword and what stands behind it, of a pin or a keepout
abbrev pub part_of_list : ImageWord → Forest → List (ImageWord × Forest)
part_of_list words.Pin f = (words.Pin, f) ∷ []
part_of_list (words.Keep k) f = (words.Keep k, f) ∷ []
part_of_list _ f = []

abbrev pub parts_in : ℕ → Forest → List (ImageWord × Forest)
parts_in at inside = part_of_list (image_word (head_of inside).text) (head_of inside).args

-- the parts are those of these lists, one by one
abbrev pub AreParts : LengthUnit → List (List ℕ) → List (List ℕ) → List (List ℕ) → List (ImageWord × Forest) → List ImagePart → Type 0
AreParts u layers stacks ids [] ps = ps ≡ []
AreParts u layers stacks ids (l ∷ ls) [] = ⊥
AreParts u layers stacks ids (l ∷ ls) (p ∷ ps) = IsPart u layers stacks ids l.0 l.1 p × AreParts u layers stacks ids ls ps

-- ---- the image

-- Lists of an image and what they stand for, for layers and padstacks of these names. The ids are those of its pins, each
-- once, in the order of first use. The parts are its pins and keepouts in order.
pub record HasParts (u : LengthUnit) (layers stacks : List (List ℕ)) (f : Forest) (m : Image) : Type 0 where
  pub formed : Every (IsImageList u layers stacks) f
  pub ids : m.ids ≡ each_once (collect ids_in f)
  pub parts : AreParts u layers stacks m.ids (collect parts_in f) m.parts

-- the list, behind its keyword, is this image; a `unit` list in it replaces the unit
abbrev pub IsImage : LengthUnit → List (List ℕ) → List (List ℕ) → Forest → Image → Type 0
IsImage u layers stacks f m = HasWord (λ name rest. HasParts (governing_unit u rest) layers stacks rest m) f

-- ---- the first fault

-- what is wrong with a list of an image that begins at this byte, by its keyword
abbrev pub OfImageFault : LengthUnit → List (List ℕ) → List (List ℕ) → ℕ → ImageWord → Forest → DesignFault → Type 0
OfImageFault u layers stacks at words.Pin f e = PinFault u stacks at f e
OfImageFault u layers stacks at (words.Keep k) f e = KeepoutFault u layers at f e
OfImageFault u layers stacks at words.Unit f e = UnitListFault at f e
OfImageFault u layers stacks at words.Other f e = ⊥

abbrev pub ImageListFault : LengthUnit → List (List ℕ) → List (List ℕ) → Forest → ℕ → Forest → DesignFault → Type 0
ImageListFault u layers stacks before at inside e = OfImageFault u layers stacks at (image_word (head_of inside).text) (head_of inside).args e

-- the fault of an image behind images of these names: its name is one of them, or a list of it is at fault
abbrev pub ImageFault : LengthUnit → List (List ℕ) → List (List ℕ) → List (List ℕ) → ℕ → Forest → DesignFault → Type 0
ImageFault u layers stacks images at f e =
    NoWordOr (λ a name rest e. ((is_among name images ≡ true) × (e ≡ told kind.Twice a))
    ⊎ ((is_among name images ≡ false) × IsFirst (Every (IsImageList (governing_unit u rest) layers stacks)) (ImageListFault (governing_unit u rest) layers stacks) rest e)) at f e
