-- What the lists of the structure section state.
-- Models: the structure, layer, boundary, via, keepout and place_control descriptors of the SPECCTRA reference. Left out:
-- planes, and the type of a layer.
use Rattle.std.specs.Prelude.{ℕ, nat_lt, ◌==◌, Bool, true, false, is_some, List, [], ◌∷◌, ◌++◌, codes, length, Option, Some, None, Ok, if◌then◌else◌}
use Rattle.row_lists.specs.Limits.{layer_limit}
use Rattle.sexp_text.specs.Forest.{Forest}
use Rattle.sexp_text.specs.declared.units.Unit.{Unit as LengthUnit}
use Rattle.area_geometry.specs.declared.shapes.Shape.{Shape}
use Rattle.board_items.specs.declared.items.KeepKind.{KeepKind}
use Rattle.board_items.specs.declared.items.Item.TheVariants.{Keep}
use Rattle.dsn_lists.specs.declared.faults.DesignKind.TheVariants as kind
use Rattle.dsn_lists.specs.declared.marks.Mark.{Mark}
use Rattle.dsn_lists.specs.declared.pcb.Section.TheVariants as sections
use Rattle.dsn_lists.specs.Results.{Read, ◌>>=◌, wrong, each}
use Rattle.dsn_lists.specs.Words.{Heading, same, head_of, word_of, spare, one_word, name_list}
use Rattle.dsn_lists.specs.Units.{unit_list, governing}
use Rattle.dsn_lists.specs.Rules.{no_rule, rule_of}
use Rattle.dsn_lists.specs.Pcbs.{Spot, design_of, section_in}
use Rattle.dsn_lists.specs.NewNames.{new_name}
use Rattle.dsn_shapes.specs.declared.quotas.Quota.{Quota}
use Rattle.dsn_shapes.specs.Ahead.{names_ahead}
use Rattle.dsn_shapes.specs.Quotas.{whole_quota, quota_behind}
use Rattle.dsn_shapes.specs.Outlines.{outlines_of}
use Rattle.dsn_shapes.specs.Keepouts.{keep_kind, keep_shapes}
use Rattle.dsn_structure.specs.declared.flips.FlipStyle.{FlipStyle}
use Rattle.dsn_structure.specs.declared.flips.FlipStyle.TheVariants.{MirrorFirst, RotateFirst}
use Rattle.dsn_structure.specs.declared.structure.Structure.{Structure}
use Rattle.dsn_structure.specs.declared.structure.StructureWord.{StructureWord}
use Rattle.dsn_structure.specs.declared.structure.StructureWord.TheVariants as words

-- ---- `(place_control (flip_style mirror_first|rotate_first))`

unfoldable pub flip_named : List ℕ → Option FlipStyle
flip_named text =
    if same text (codes "mirror_first") then Some MirrorFirst else
    if same text (codes "rotate_first") then Some RotateFirst else None

abbrev pub known_flip : ℕ → Option FlipStyle → Read FlipStyle
known_flip at None = wrong kind.Style at
known_flip at (Some s) = Ok s

-- `(flip_style <word>)`
unfoldable pub flip_list : ℕ → Forest → Read FlipStyle
flip_list at f = do
  w ← word_of at f
  s ← known_flip w.0.at (flip_named w.0.name)
  _ ← spare w.1
  Ok s

-- a list of `place_control`, of which only one states a flip style
unfoldable pub flip_item : Option FlipStyle → ℕ → Forest → Read (Option FlipStyle)
flip_item o at inside =
    if same (head_of inside).text (codes "flip_style") then (if is_some o then wrong kind.Form at else (flip_list at (head_of inside).args >>= λ s. Ok (Some s))) else Ok o

abbrev pub stated_flip : ℕ → Option FlipStyle → Read FlipStyle
stated_flip at None = wrong kind.Form at
stated_flip at (Some s) = Ok s

unfoldable pub flip_of : ℕ → Forest → Read FlipStyle
flip_of at f = each flip_item None f >>= λ o. stated_flip at o

-- ---- `(layer <id> (type <word>) ..)`

-- a list of a layer, which has to have a type
unfoldable pub type_item : Bool → ℕ → Forest → Read Bool
type_item typed at inside = if same (head_of inside).text (codes "type") then (one_word at (head_of inside).args >>= λ _. Ok true) else Ok typed

-- the name of a layer behind layers of these names
unfoldable pub layer_of : List (List ℕ) → ℕ → Forest → Read (List ℕ)
layer_of names at f = do
  w ← word_of at f
  _ ← new_name layer_limit names w.0
  typed ← each type_item false w.1
  if typed then Ok w.0.name else wrong kind.Form at

-- ---- the section

-- the names of the layers and of one more
abbrev pub layers_with : List (List ℕ) → ℕ → Forest → Read (List (List ℕ))
layers_with names at f = layer_of names at f >>= λ name. Ok (names ++ name ∷ [])

-- the structure with one more list of vias
abbrev pub with_vias : Structure → ℕ → Forest → Read Structure
with_vias s at f = name_list at f >>= λ ms. Ok (record s { vias = s.vias ++ ms ∷ [] })

-- the structure with what one more rule states
abbrev pub with_rule : LengthUnit → Structure → Forest → Read Structure
with_rule u s f = rule_of u s.rule f >>= λ r. Ok (record s { rule = r })

-- the structure with more outline areas
abbrev pub with_outlines : LengthUnit → Structure → ℕ → Forest → Read Structure
with_outlines u s at f = outlines_of u s.outline at f >>= λ areas. Ok (record s { outline = areas })

-- the structure with one more keepout, where there is room for it
abbrev pub put_keep : ℕ → Structure → KeepKind → List Shape → Option Quota → Read Structure
put_keep at s k ss None = wrong kind.Large at
put_keep at s k ss (Some quota) = Ok (record s { keeps = s.keeps ++ Keep k ss ∷ []; quota = quota })

-- the structure with one more keepout, which may name layers of these names
abbrev pub with_keep : LengthUnit → List (List ℕ) → Structure → KeepKind → ℕ → Forest → Read Structure
with_keep u names s k at f = keep_shapes u names at f >>= λ ss. put_keep at s k ss (quota_behind s.quota ss)

abbrev pub keep_word : Option KeepKind → StructureWord
keep_word None = words.Other
keep_word (Some k) = words.Keep k

unfoldable pub area_word : List ℕ → StructureWord
area_word text = if same text (codes "boundary") then words.Boundary else keep_word (keep_kind text)

-- what a list of the section is
unfoldable pub structure_word : List ℕ → StructureWord
structure_word text =
    if same text (codes "layer") then words.Layer else
    if same text (codes "via") then words.Via else
    if same text (codes "rule") then words.Rule else
    if same text (codes "place_control") then words.PlaceControl else
    if same text (codes "unit") then words.Unit else
    if same text (codes "resolution") then words.Resolution else area_word text

abbrev pub structure_list : LengthUnit → List (List ℕ) → Structure → ℕ → Heading → StructureWord → Read Structure
structure_list u names s at h words.Layer = layers_with s.layers at h.args >>= λ names. Ok (record s { layers = names })
structure_list u names s at h words.Via = with_vias s at h.args
structure_list u names s at h words.Rule = with_rule u s h.args
structure_list u names s at h words.PlaceControl = flip_of at h.args >>= λ o. Ok (record s { flip = Some o })
structure_list u names s at h words.Unit = unit_list at h.args >>= λ _. Ok s
structure_list u names s at h words.Resolution = wrong kind.Unit h.at
structure_list u names s at h words.Boundary = with_outlines u s at h.args
structure_list u names s at h (words.Keep k) = with_keep u names s k at h.args
structure_list u names s at h words.Other = Ok s

unfoldable pub structure_item : LengthUnit → List (List ℕ) → Structure → ℕ → Forest → Read Structure
structure_item u names s at inside = structure_list u names s at (head_of inside) (structure_word (head_of inside).text)

abbrev pub no_structure : Structure
no_structure = record { layers = []; vias = []; rule = no_rule; flip = None; outline = []; keeps = []; quota = whole_quota }

-- a section with a layer, whose list begins at this byte
unfoldable pub with_layer : ℕ → Structure → Read Structure
with_layer at s = if length s.layers == 0 then wrong kind.Missing at else Ok s

-- the names of the layers of the whole section, also of those that stand behind a keepout
abbrev pub all_layers : Forest → List (List ℕ)
all_layers f = names_ahead (codes "layer") [] f

-- the section at its place, where this unit governs the design
unfoldable pub structure_at : LengthUnit → Spot → Read Structure
structure_at u p = each (structure_item (governing u p.args) (all_layers p.args)) no_structure p.args >>= λ s. with_layer p.at s

-- the structure of a design
unfoldable pub structure_of : Forest → Read Structure
structure_of f = design_of f >>= λ t. structure_at t.unit (section_in sections.Structure f)
