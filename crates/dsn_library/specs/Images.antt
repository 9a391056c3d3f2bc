-- What an image of the library states.
-- Models: the image and pin descriptors of the SPECCTRA reference. Left out: outlines and all other lists.
use Rattle.std.specs.Prelude.{ℕ, is_some, List, [], ◌∷◌, ◌++◌, codes, length, Option, Some, None, Result, Ok, Err, if◌then◌else◌}
use Rattle.sexp_text.specs.Forest.{Forest, End, Word, Branch}
use Rattle.sexp_text.specs.declared.units.Unit.{Unit as LengthUnit}
use Rattle.sexp_text.specs.declared.angle_fault.AngleFault.{AngleFault}
use Rattle.sexp_text.specs.declared.angle_fault.AngleFault.TheVariants as angles
use Rattle.sexp_text.specs.AngleReading.{angle_in}
use Rattle.seg_geometry.specs.declared.points.Pt.{Pt}
use Rattle.area_geometry.specs.declared.shapes.Shape.{Shape}
use Rattle.board_items.specs.declared.items.KeepKind.{KeepKind}
use Rattle.dsn_lists.specs.declared.faults.DesignKind.TheVariants as kind
use Rattle.dsn_lists.specs.declared.marks.Mark.{Mark}
use Rattle.dsn_lists.specs.Results.{Read, ◌>>=◌, wrong, each}
use Rattle.dsn_lists.specs.Names.{is_among, place_of}
use Rattle.dsn_lists.specs.Words.{Heading, same, head_of, word_of, spare}
use Rattle.dsn_lists.specs.Units.{unit_list, governing}
use Rattle.dsn_lists.specs.Shapes.{point_of}
use Rattle.dsn_lists.specs.NewNames.{fresh_name}
use Rattle.dsn_shapes.specs.Keepouts.{keep_kind, keep_shapes}
use Rattle.dsn_library.specs.declared.images.ImagePart.TheVariants as parts
use Rattle.dsn_library.specs.declared.images.Image.{Image}
use Rattle.dsn_library.specs.declared.image_lists.PinText.{PinText}
use Rattle.dsn_library.specs.declared.image_lists.ImageWord.{ImageWord}
use Rattle.dsn_library.specs.declared.image_lists.ImageWord.TheVariants as words

-- ---- angles

abbrev pub angle_told : ℕ → Result ℕ AngleFault → Read ℕ
angle_told at (Ok eighths) = Ok eighths
angle_told at (Err angles.NotNumber) = wrong kind.Number at
angle_told at (Err angles.NotAngle) = wrong kind.Angle at

-- the eighths of a turn that a word states
abbrev pub angle_word : Mark → Read ℕ
angle_word w = angle_told w.at (angle_in w.name)

-- `(rotate <angle>)`
unfoldable pub rotate_of : ℕ → Forest → Read ℕ
rotate_of at f = do
  w ← word_of at f
  eighths ← angle_word w.0
  _ ← spare w.1
  Ok eighths

-- ---- `(pin <padstack> [(rotate <angle>)] <pin id> x y)`

-- a list behind a pin's padstack, of which only one turns the pin
unfoldable pub rotate_item : Option ℕ → ℕ → Forest → Read (Option ℕ)
rotate_item o at inside =
    if same (head_of inside).text (codes "rotate") then (if is_some o then wrong kind.Form at else (rotate_of at (head_of inside).args >>= λ e. Ok (Some e))) else Ok o

-- the lists behind a pin's padstack up to a word or the end, and what follows
unfoldable pub rotation : Option ℕ → Forest → Read (Option ℕ × Forest)
rotation o End = Ok (o, End)
rotation o (Word at text rest) = Ok (o, Word at text rest)
rotation o (Branch at inside rest) = rotate_item o at inside >>= λ x. rotation x rest

-- a list behind a pin's words turns no pin
unfoldable pub pin_trail_item : Unit {0} → ℕ → Forest → Read (Unit {0})
pin_trail_item x at inside = if same (head_of inside).text (codes "rotate") then wrong kind.Form at else Ok tt

abbrev pub stack_number : ℕ → Option ℕ → Read ℕ
stack_number at (Some n) = Ok n
stack_number at None = wrong kind.Name at

abbrev pub or_zero : Option ℕ → ℕ
or_zero None = 0
or_zero (Some n) = n

-- what a pin states: the number of its padstack, its turn, its id, and its place
pub record PinWords : Type 0 where
  pub stack : ℕ
  pub eighths : ℕ
  pub id : List ℕ
  pub at : Pt

abbrev pub pin_words : PinText → PinWords
pin_words p = record { stack = p.stack; eighths = p.eighths; id = p.id.now; at = p.at }

-- a pin whose list begins at this byte, with a padstack of one of these names
unfoldable pub pin_of : LengthUnit → List (List ℕ) → ℕ → Forest → Read PinWords
pin_of u stacks at f = do
  w ← word_of at f
  stack ← stack_number w.0.at (place_of stacks w.0.name)
  r ← rotation None w.1
  id ← word_of at r.1
  x ← word_of at id.1
  p ← point_of u at x.0 x.1
  _ ← each pin_trail_item tt p.1
  Ok (record { stack = stack; eighths = or_zero r.0; id = id.0.name; at = p.0 })

-- ---- `(image <id> ..)`

-- these names, and behind them one more where it isn't there
abbrev pub with_name : List (List ℕ) → List ℕ → List (List ℕ)
with_name names name = if is_among name names then names else names ++ name ∷ []

abbrev pub or_next : ℕ → Option ℕ → ℕ
or_next n None = n
or_next n (Some k) = k

-- the number of a name among these and itself
abbrev pub number_with : List (List ℕ) → List ℕ → ℕ
number_with names name = or_next (length names) (place_of names name)

-- the image with one more pin
abbrev pub with_pin : Image → PinWords → Image
with_pin m p = record { ids = with_name m.ids p.id; parts = m.parts ++ parts.Pin p.stack (number_with m.ids p.id) p.eighths p.at ∷ [] }

abbrev pub with_pin_of : LengthUnit → List (List ℕ) → Image → ℕ → Forest → Read Image
with_pin_of u stacks m at f = pin_of u stacks at f >>= λ p. Ok (with_pin m p)

-- the image with one more keepout
abbrev pub with_keep : Image → KeepKind → List Shape → Image
with_keep m k ss = record { ids = m.ids; parts = m.parts ++ parts.Keep k ss ∷ [] }

abbrev pub image_keep_word : Option KeepKind → ImageWord
image_keep_word None = words.Other
image_keep_word (Some k) = words.Keep k

-- what a list of an image is
unfoldable pub image_word : List ℕ → ImageWord
image_word text =
    if same text (codes "pin") then words.Pin else
    if same text (codes "unit") then words.Unit else image_keep_word (keep_kind text)

abbrev pub image_list : LengthUnit → List (List ℕ) → List (List ℕ) → Image → ℕ → Heading → ImageWord → Read Image
image_list u layers stacks m at h words.Pin = with_pin_of u stacks m at h.args
image_list u layers stacks m at h (words.Keep k) = keep_shapes u layers at h.args >>= λ ss. Ok (with_keep m k ss)
image_list u layers stacks m at h words.Unit = unit_list at h.args >>= λ _. Ok m
image_list u layers stacks m at h words.Other = Ok m

unfoldable pub image_item : LengthUnit → List (List ℕ) → List (List ℕ) → Image → ℕ → Forest → Read Image
image_item u layers stacks m at inside = image_list u layers stacks m at (head_of inside) (image_word (head_of inside).text)

abbrev pub no_image : Image
no_image = record { ids = []; parts = [] }

-- the name of an image whose list begins at this byte, behind images of these names, and what it states; lengths are in
-- this unit, which a `unit` list in the image replaces
unfoldable pub image_of : LengthUnit → List (List ℕ) → List (List ℕ) → List (List ℕ) → ℕ → Forest → Read (List ℕ × Image)
image_of u layers stacks images at f = do
  w ← word_of at f
  _ ← fresh_name images w.0
  m ← each (image_item (governing u w.1) layers stacks) no_image w.1
  Ok (w.0.name, m)
