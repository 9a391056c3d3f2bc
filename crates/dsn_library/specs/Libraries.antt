-- What the lists of the library section state.
-- Models: the library and padstack descriptors of the SPECCTRA reference. Left out: holes, and rotated and absolute
-- padstacks, which are refused.
use Rattle.std.specs.Prelude.{ℕ, nat_lt, true, false, List, [], ◌∷◌, ◌++◌, codes, length, Ok, if◌then◌else◌}
use Rattle.row_lists.specs.Limits.{padstack_limit}
use Rattle.sexp_text.specs.Forest.{Forest, End, Word, Branch}
use Rattle.sexp_text.specs.declared.units.Unit.{Unit as LengthUnit}
use Rattle.board_items.specs.declared.items.Padstack.{Padstack}
use Rattle.dsn_lists.specs.declared.faults.DesignKind.TheVariants as kind
use Rattle.dsn_lists.specs.declared.marks.Mark.{Mark}
use Rattle.dsn_lists.specs.declared.pcb.Section.TheVariants as sections
use Rattle.dsn_lists.specs.Results.{Read, ◌>>=◌, wrong, each}
use Rattle.dsn_lists.specs.Words.{Heading, same, head_of, word_of}
use Rattle.dsn_lists.specs.Units.{unit_list, governing}
use Rattle.dsn_lists.specs.Pcbs.{Spot, design_of, section_in}
use Rattle.dsn_lists.specs.NewNames.{new_name}
use Rattle.dsn_shapes.specs.Ahead.{names_ahead}
use Rattle.dsn_shapes.specs.Drawn.{shapes_of}
use Rattle.dsn_library.specs.declared.images.Image.{Image}
use Rattle.dsn_library.specs.Images.{image_of}
use Rattle.dsn_library.specs.declared.stacks.Drawn.{Drawn}
use Rattle.dsn_library.specs.declared.stacks.StackWord.{StackWord}
use Rattle.dsn_library.specs.declared.stacks.StackWord.TheVariants as stacks
use Rattle.dsn_library.specs.declared.library.Library.{Library}
use Rattle.dsn_library.specs.declared.library.LibraryWord.{LibraryWord}
use Rattle.dsn_library.specs.declared.library.LibraryWord.TheVariants as words

-- ---- padstacks

-- a list doesn't begin with this word
unfoldable pub not_first : List ℕ → Forest → Read (Unit {0})
not_first word End = Ok tt
not_first word (Word at text rest) = if same text word then wrong kind.Form at else Ok tt
not_first word (Branch at inside rest) = Ok tt

-- what a list of a padstack is
unfoldable pub stack_word : List ℕ → StackWord
stack_word text =
    if same text (codes "shape") then stacks.Shapes else
    if same text (codes "window") then stacks.Window else
    if same text (codes "rotate") then stacks.Rotate else
    if same text (codes "absolute") then stacks.Absolute else stacks.Other

abbrev pub stack_list : LengthUnit → List (List ℕ) → Drawn → ℕ → Heading → StackWord → Read Drawn
stack_list u layers d at h stacks.Shapes = shapes_of u layers d.shapes at h.args >>= λ ss. Ok (record { shapes = ss; drawn = true })
stack_list u layers d at h stacks.Window = wrong kind.Window h.at
stack_list u layers d at h stacks.Rotate = not_first (codes "off") h.args >>= λ _. Ok d
stack_list u layers d at h stacks.Absolute = not_first (codes "on") h.args >>= λ _. Ok d
stack_list u layers d at h stacks.Other = Ok d

unfoldable pub stack_item : LengthUnit → List (List ℕ) → Drawn → ℕ → Forest → Read Drawn
stack_item u layers d at inside = stack_list u layers d at (head_of inside) (stack_word (head_of inside).text)

abbrev pub nothing_drawn : Drawn
nothing_drawn = record { shapes = []; drawn = false }

-- a padstack has shapes
unfoldable pub as_stack : ℕ → List ℕ → Drawn → Read Padstack
as_stack at name d = if d.drawn then Ok (record { name = name; shapes = d.shapes }) else wrong kind.Form at

-- the padstack of a list that begins at this byte, behind padstacks of these names
unfoldable pub stack_of : LengthUnit → List (List ℕ) → List (List ℕ) → ℕ → Forest → Read Padstack
stack_of u layers names at f = do
  w ← word_of at f
  _ ← new_name padstack_limit names w.0
  d ← each (stack_item u layers) nothing_drawn w.1
  as_stack at w.0.name d

-- ---- the section

-- what a list of the section is
unfoldable pub library_word : List ℕ → LibraryWord
library_word text =
    if same text (codes "padstack") then words.Stack else
    if same text (codes "image") then words.Image else
    if same text (codes "unit") then words.Unit else
    if same text (codes "resolution") then words.Resolution else words.Other

-- the library and one more padstack
abbrev pub with_stack : Library → Padstack → Library
with_stack l p = record l { names = l.names ++ p.name ∷ []; stacks = l.stacks ++ p ∷ [] }

-- the library and one more image of this name
abbrev pub with_image : Library → List ℕ → Image → Library
with_image l name m = record l { image_names = l.image_names ++ name ∷ []; images = l.images ++ m ∷ [] }

abbrev pub library_list : LengthUnit → List (List ℕ) → List (List ℕ) → Library → ℕ → Heading → LibraryWord → Read Library
library_list u layers stacks l at h words.Stack = stack_of u layers l.names at h.args >>= λ p. Ok (with_stack l p)
library_list u layers stacks l at h words.Image = image_of u layers stacks l.image_names at h.args >>= λ x. Ok (with_image l x.0 x.1)
library_list u layers stacks l at h words.Unit = unit_list at h.args >>= λ _. Ok l
library_list u layers stacks l at h words.Resolution = wrong kind.Unit h.at
library_list u layers stacks l at h words.Other = Ok l

unfoldable pub library_item : LengthUnit → List (List ℕ) → List (List ℕ) → Library → ℕ → Forest → Read Library
library_item u layers stacks l at inside = library_list u layers stacks l at (head_of inside) (library_word (head_of inside).text)

abbrev pub no_library : Library
no_library = record { names = []; stacks = []; image_names = []; images = [] }

-- the names of the padstacks of the whole section, also of those that stand behind an image
abbrev pub all_stacks : Forest → List (List ℕ)
all_stacks f = names_ahead (codes "padstack") [] f

-- the section at its place, where this unit governs the design, for layers of these names
unfoldable pub library_at : LengthUnit → List (List ℕ) → Spot → Read Library
library_at u layers p = each (library_item (governing u p.args) layers (all_stacks p.args)) no_library p.args

-- the library of a design with layers of these names
unfoldable pub library_of : Forest → List (List ℕ) → Read Library
library_of f layers = design_of f >>= λ t. library_at t.unit layers (section_in sections.Library f)
