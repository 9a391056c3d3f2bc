-- Models: the lines that number what a design has: its layers, padstacks, classes, nets and loaded items.
-- Left out: outlines, lists of vias, and what a class states for two kinds.
-- Cited by: `Numbers`, and the functions that put a line.
use Rattle.std.specs.Prelude.{ℕ, ◌-◌, Bool, List, [], ◌++◌, length, codes, decimal, Option, Some, None, slice_get, if◌then◌else◌}
use Rattle.std.specs.Fmt.{signed_decimal}
use Rattle.seg_geometry.specs.declared.points.Pt.{Pt}
use Rattle.area_geometry.specs.declared.shapes.Shape.{Shape}
use Rattle.board_items.specs.declared.items.Item.{Item}
use Rattle.board_items.specs.declared.items.Item.TheVariants as items
use Rattle.board_items.specs.declared.items.KeepKind.{KeepKind}
use Rattle.board_items.specs.declared.items.KeepKind.TheVariants as keeps
use Rattle.board_items.specs.declared.items.Padstack.{Padstack}
use Rattle.board_rules.specs.declared.design.ClassRow.{ClassRow}
use Rattle.board_rules.specs.declared.design.NetRow.{NetRow}
use Rattle.board_rules.specs.declared.design.What.TheVariants as whats
use Rattle.board_rules.specs.Classes.{value_of}
use Rattle.board_rules.specs.Needs.{is_on_one_layer}
use Rattle.dsn_turns.specs.declared.turns.Wide.{Wide}
use Rattle.dsn_library.specs.declared.images.Image.{Image}
use Rattle.dsn_placement.specs.declared.placement.PlacedPart.{PlacedPart}
use Rattle.dsn_placement.specs.declared.placement.PlacedPart.TheVariants as placed
use Rattle.quoted_names.specs.Names.{name_text}
use Rattle.board_numbers.specs.declared.origins.Origins.{Origins}

-- ---- words

-- a number, or the word for none
abbrev pub or_none : Option ℕ → List ℕ
or_none None = codes "none"
or_none (Some n) = decimal n

-- the word and the number that a line begins with, and a space
unfoldable pub front_text : List ℕ → ℕ → List ℕ
front_text word n = word ++ (codes " " ++ (decimal n ++ codes " "))

-- a place: its x, a space, and its y
unfoldable pub place_text : Pt → List ℕ
place_text p = signed_decimal p.x ++ (codes " " ++ signed_decimal p.y)

-- the same of a place that may be out of range
unfoldable pub wide_text : Wide → List ℕ
wide_text p = signed_decimal p.x ++ (codes " " ++ signed_decimal p.y)

-- a fixed item says so, and the line ends
unfoldable pub end_text : Bool → List ℕ
end_text fix = if fix then codes " fixed\n" else codes "\n"

-- ---- layers, padstacks, classes and nets

-- a layer and its name
unfoldable pub layer_line : ℕ → List ℕ → List ℕ
layer_line n name = front_text (codes "layer") n ++ (name_text name ++ codes "\n")

-- a padstack, its name, and how many shapes it has
unfoldable pub stack_line : ℕ → Padstack → List ℕ
stack_line n s = front_text (codes "padstack") n ++ (name_text s.name ++ (codes " shapes " ++ (decimal (length s.shapes) ++ codes "\n")))

-- a clearance and a least width, and the line ends
unfoldable pub rule_end : Option ℕ → Option ℕ → List ℕ
rule_end clearance width = codes " clearance " ++ (or_none clearance ++ (codes " width " ++ (or_none width ++ codes "\n")))

-- a class, its name, its clearance for all for which nothing closer is stated, and its least width
unfoldable pub class_line : ℕ → ClassRow → List ℕ
class_line n c = front_text (codes "class") n ++ (name_text c.name ++ rule_end (value_of whats.Untyped c.clearances) c.width)

-- a net, its name, and its class
unfoldable pub net_line : ℕ → NetRow → List ℕ
net_line n row = front_text (codes "net") n ++ (name_text row.name ++ (codes " class " ++ (decimal row.class ++ codes "\n")))

-- ---- items

-- what a keepout keeps out
abbrev pub keep_word : KeepKind → List ℕ
keep_word keeps.All = codes "all"
keep_word keeps.Vias = codes "vias"
keep_word keeps.Wires = codes "wires"

-- a keepout
unfoldable pub keep_line : ℕ → KeepKind → List ℕ
keep_line n kind = front_text (codes "item") n ++ (codes "keepout " ++ (keep_word kind ++ codes "\n"))

-- a pad lies on one layer, or it is a pin through several
abbrev pub pad_word : List Shape → List ℕ
pad_word shapes = if is_on_one_layer shapes then codes "smd" else codes "pin"

-- a name, or nothing where there is none
abbrev pub or_empty : Option (List ℕ) → List ℕ
or_empty None = []
or_empty (Some name) = name

-- the ids of an image's pins
abbrev pub ids_in : Option Image → List (List ℕ)
ids_in None = []
ids_in (Some m) = m.ids

-- the image of this number
abbrev pub image_at : List Image → Option ℕ → Option Image
image_at images None = None
image_at images (Some n) = slice_get images n

-- the ids of the pins of this component
abbrev pub ids_of : Origins → ℕ → List (List ℕ)
ids_of o component = ids_in (image_at o.library.images (slice_get o.placement.images component))

-- the name of a pin: its component's name, a dash, and its own id
unfoldable pub pin_name : Origins → ℕ → ℕ → List ℕ
pin_name o component pin = or_empty (slice_get o.placement.components component) ++ (codes "-" ++ or_empty (slice_get (ids_of o component) pin))

-- the net of a pad, between spaces
unfoldable pub net_text : Option ℕ → List ℕ
net_text net = codes " net " ++ (or_none net ++ codes " ")

-- behind the name of a pad: its net, its kind, and the place of its pin
unfoldable pub pad_end : Option ℕ → List Shape → Wide → List ℕ
pad_end net shapes place = net_text net ++ (pad_word shapes ++ (codes " at " ++ (wide_text place ++ codes "\n")))

-- a pad
unfoldable pub pad_line : Origins → ℕ → Option ℕ → List Shape → ℕ → ℕ → Wide → List ℕ
pad_line o n net shapes component pin place = front_text (codes "item") n ++ (codes "pad " ++ (name_text (pin_name o component pin) ++ pad_end net shapes place))

-- a pad by the part of a component that it comes of
abbrev pub of_part : Origins → ℕ → Option ℕ → List Shape → Option PlacedPart → List ℕ
of_part o n net shapes (Some (placed.Pad component pin place ss)) = pad_line o n net shapes component pin place
of_part o n net shapes (Some (placed.Keep kind ss)) = []
of_part o n net shapes None = []

-- a place where there is one
abbrev pub place_or_empty : Option Pt → List ℕ
place_or_empty None = []
place_or_empty (Some p) = place_text p

-- how many points a path has, the first one and the last one
unfoldable pub path_text : List Pt → List ℕ
path_text points =
    codes " points " ++ (decimal (length points) ++ (codes " from " ++ (place_or_empty (slice_get points 0) ++ (codes " to " ++ place_or_empty (slice_get points (length points - 1))))))

-- a wire's net, layer and width
unfoldable pub track_text : ℕ → ℕ → ℕ → List ℕ
track_text net layer width = codes "wire net " ++ (decimal net ++ (codes " layer " ++ (decimal layer ++ (codes " width " ++ decimal width))))

-- a wire
unfoldable pub wire_line : ℕ → ℕ → ℕ → ℕ → List Pt → Bool → List ℕ
wire_line n net layer width points fix = front_text (codes "item") n ++ (track_text net layer width ++ (path_text points ++ end_text fix))

-- a via's net, padstack and place
unfoldable pub hole_text : ℕ → ℕ → Pt → List ℕ
hole_text net padstack place = codes "via net " ++ (decimal net ++ (codes " padstack " ++ (decimal padstack ++ (codes " at " ++ place_text place))))

-- a via
unfoldable pub via_line : ℕ → ℕ → ℕ → Pt → Bool → List ℕ
via_line n net padstack place fix = front_text (codes "item") n ++ (hole_text net padstack place ++ end_text fix)

-- The item of this number. Behind the structure's keepouts the items are the parts of components in their order, so the
-- number tells the part that a pad comes of.
abbrev pub item_line : Origins → ℕ → Item → List ℕ
item_line o n (items.Wire net layer width points fix) = wire_line n net layer width points fix
item_line o n (items.Via net padstack place fix) = via_line n net padstack place fix
item_line o n (items.Pad net shapes) = of_part o n net shapes (slice_get o.placement.parts (n - 1 - o.keeps))
item_line o n (items.Keep kind shapes) = keep_line n kind
