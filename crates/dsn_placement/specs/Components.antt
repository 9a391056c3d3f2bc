-- What the components and the flip style of a placement are.
-- Models: the placement, component and place_control descriptors of the SPECCTRA reference. Own to this profile: a
-- `place_control` in the placement goes before one in the structure, and a part on the back is mirrored first by default.
use Rattle.std.specs.Prelude.{ℕ, Bool, true, false, List, [], codes, length, Option, Some, None, Ok, Err, if◌then◌else◌}
use Rattle.sexp_text.specs.Forest.{Forest, End, Word, Branch}
use Rattle.sexp_text.specs.declared.units.Unit.{Unit as LengthUnit}
use Rattle.dsn_turns.specs.declared.turns.Flip.{Flip}
use Rattle.dsn_turns.specs.declared.turns.Flip.TheVariants.{Before, After}
use Rattle.dsn_lists.specs.declared.faults.DesignKind.TheVariants as kind
use Rattle.dsn_lists.specs.declared.pcb.Section.TheVariants as sections
use Rattle.dsn_lists.specs.Results.{Read, ◌>>=◌, wrong, each}
use Rattle.dsn_lists.specs.Names.{place_of}
use Rattle.dsn_lists.specs.Words.{Heading, same, head_of, word_of}
use Rattle.dsn_lists.specs.Units.{unit_list, governing}
use Rattle.dsn_lists.specs.Pcbs.{Spot, design_of, section_in}
use Rattle.dsn_shapes.specs.declared.quotas.Quota.{Quota}
use Rattle.dsn_structure.specs.declared.flips.FlipStyle.{FlipStyle}
use Rattle.dsn_structure.specs.declared.flips.FlipStyle.TheVariants.{MirrorFirst, RotateFirst}
use Rattle.dsn_structure.specs.declared.structure.Structure.{Structure}
use Rattle.dsn_structure.specs.Structures.{flip_of}
use Rattle.dsn_library.specs.declared.library.Library.{Library}
use Rattle.dsn_placement.specs.declared.placement.Placement.{Placement}
use Rattle.dsn_placement.specs.declared.place_lists.PlacementWord.{PlacementWord}
use Rattle.dsn_placement.specs.declared.place_lists.PlacementWord.TheVariants as words
use Rattle.dsn_placement.specs.Placements.{Ground, with_place}

-- ---- `(component <image> (place ..) ..)`

-- the placement so far, and whether the component has a place
pub record Sited : Type 0 where
  pub placement : Placement
  pub found : Bool

abbrev pub sited : Placement → Bool → Sited
sited pl found = record { placement = pl; found = found }

abbrev pub image_number : ℕ → Option ℕ → Read ℕ
image_number at (Some n) = Ok n
image_number at None = wrong kind.Name at

unfoldable pub component_item : LengthUnit → Ground → Library → ℕ → Sited → ℕ → Forest → Read Sited
component_item u g l image x at inside =
    if same (head_of inside).text (codes "place") then (with_place u g l.images image x.placement at (head_of inside).args >>= λ pl. Ok (sited pl true)) else Ok x

abbrev pub some_place : ℕ → Sited → Read Placement
some_place at x = if x.found then Ok x.placement else wrong kind.Form at

-- the placement with the components of a list that begins at this byte
unfoldable pub component_of : LengthUnit → Ground → Library → Placement → ℕ → Forest → Read Placement
component_of u g l pl at f = do
  w ← word_of at f
  image ← image_number w.0.at (place_of l.image_names w.0.name)
  x ← each (component_item u g l image) (sited pl false) w.1
  some_place at x

-- ---- the flip style that governs

abbrev pub stated_style : Option FlipStyle → Read FlipStyle → Option FlipStyle
stated_style o (Ok s) = Some s
stated_style o (Err e) = o

-- the style that holds behind a list
unfoldable pub style_behind : Option FlipStyle → ℕ → Forest → Option FlipStyle
style_behind o at inside = if same (head_of inside).text (codes "place_control") then stated_style o (flip_of at (head_of inside).args) else o

-- the style that governs: that of the last `place_control` without fault among the lists, else the one given
unfoldable pub governing_style : Option FlipStyle → Forest → Option FlipStyle
governing_style o End = o
governing_style o (Word at text rest) = governing_style o rest
governing_style o (Branch at inside rest) = governing_style (style_behind o at inside) rest

-- a part on the back is mirrored before it is turned, unless another style governs
abbrev pub flip_by : Option FlipStyle → Flip
flip_by None = Before
flip_by (Some MirrorFirst) = Before
flip_by (Some RotateFirst) = After

-- ---- the section

-- what a list of the section is
unfoldable pub placement_word : List ℕ → PlacementWord
placement_word text =
    if same text (codes "component") then words.Component else
    if same text (codes "place_control") then words.PlaceControl else
    if same text (codes "unit") then words.Unit else
    if same text (codes "resolution") then words.Resolution else words.Other

abbrev pub placement_list : LengthUnit → Ground → Library → Placement → ℕ → Heading → PlacementWord → Read Placement
placement_list u g l pl at h words.Component = component_of u g l pl at h.args
placement_list u g l pl at h words.PlaceControl = flip_of at h.args >>= λ _. Ok pl
placement_list u g l pl at h words.Unit = unit_list at h.args >>= λ _. Ok pl
placement_list u g l pl at h words.Resolution = wrong kind.Unit h.at
placement_list u g l pl at h words.Other = Ok pl

unfoldable pub placement_item : LengthUnit → Ground → Library → Placement → ℕ → Forest → Read Placement
placement_item u g l pl at inside = placement_list u g l pl at (head_of inside) (placement_word (head_of inside).text)

-- no component, and this quota for items and points
abbrev pub no_placement : Quota → Placement
no_placement quota = record { components = []; images = []; parts = []; quota = quota }

-- how the components lie, with what the section's lists say of the flip style
abbrev pub ground : Structure → Library → Forest → Ground
ground s l f = record { flip = flip_by (governing_style s.flip f); layers = length s.layers; stacks = l.stacks }

-- the section at its place, where this unit governs the design
unfoldable pub placement_at : LengthUnit → Structure → Library → Spot → Read Placement
placement_at u s l p = each (placement_item (governing u p.args) (ground s l p.args) l) (no_placement s.quota) p.args

-- the placement of a design
unfoldable pub placement_of : Forest → Structure → Library → Read Placement
placement_of f s l = design_of f >>= λ t. placement_at t.unit s l (section_in sections.Placement f)
