-- How components on the back are mirrored.
-- Models: the place_control descriptor of the SPECCTRA reference. Own to this profile: one in the placement goes before one
-- in the structure, and without any a component is mirrored before it is turned.
use Rattle.std.specs.Prelude.{ℕ, List, [], ◌∷◌, codes, Option, Some, None, option_to_list, if◌then◌else◌}
use Rattle.sexp_text.specs.Forest.{Forest, End, Word, Branch}
use Rattle.dsn_turns.specs.declared.turns.Flip.{Flip}
use Rattle.dsn_turns.specs.declared.turns.Flip.TheVariants.{Before, After}
use Rattle.dsn_lists.specs.Words.{same, head_of}
use Rattle.dsn_lists.specs.Lists.{collect, args_of, last_of}
use Rattle.dsn_lists.specs.ShortLists.{only_lists}
use Rattle.dsn_structure.specs.declared.flips.FlipStyle.{FlipStyle}
use Rattle.dsn_structure.specs.declared.flips.FlipStyle.TheVariants.{MirrorFirst, RotateFirst}
use Rattle.dsn_structure.specs.Structures.{flip_named}

-- the style that a `flip_style` list names, where nothing is wrong with it
abbrev pub style_told : Forest → List FlipStyle
style_told End = []
style_told (Word at text rest) = if only_lists rest then option_to_list (flip_named text) else []
style_told (Branch at inside rest) = []

-- the style of the only one of these lists
abbrev pub style_of_one : List Forest → List FlipStyle
style_of_one [] = []
style_of_one (f ∷ []) = style_told f
style_of_one (f ∷ g ∷ fs) = []

-- the style that a `place_control` states, where nothing is wrong with it: one of its lists is a `flip_style`
abbrev pub control_told : Forest → List FlipStyle
control_told f = if only_lists f then style_of_one (collect (args_of (codes "flip_style")) f) else []

-- the style that a list states, where it is a `place_control` without fault
abbrev pub controls_in : ℕ → Forest → List FlipStyle
controls_in at inside = if same (head_of inside).text (codes "place_control") then control_told (head_of inside).args else []

-- the style, or to mirror first
abbrev pub or_mirror : Option FlipStyle → FlipStyle
or_mirror None = MirrorFirst
or_mirror (Some s) = s

-- the style that governs lists: the last that they state, else the one given, else to mirror first
abbrev pub governing_flip : Option FlipStyle → Forest → FlipStyle
governing_flip given f = last_of (or_mirror given) (collect controls_in f)

-- whether the back is mirrored before or after it is turned
abbrev pub flip_for : FlipStyle → Flip
flip_for MirrorFirst = Before
flip_for RotateFirst = After
