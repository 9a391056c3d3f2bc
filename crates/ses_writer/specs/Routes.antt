-- Models: wires and vias among the routes of the SPECCTRA session descriptor. Numbers are nanometres.
use Rattle.std.specs.Prelude.{ℕ, Bool, false, List, [], ◌++◌, codes, decimal, ◌==◌, if◌then◌else◌, Option, Some, None, slice_get}
use Rattle.std.specs.Fmt.{signed_decimal}
use Rattle.std.specs.List.{flat_map}
use Rattle.seg_geometry.specs.declared.points.Pt.{Pt}
use Rattle.board_items.specs.declared.items.Item.{Item}
use Rattle.board_items.specs.declared.items.Item.TheVariants as items
use Rattle.board_items.specs.declared.items.Padstack.{Padstack}
use Rattle.board_rules.specs.declared.design.Parts.{Parts}
use Rattle.quoted_names.specs.Names.{name_text}

-- a name, or nothing where there is none
abbrev pub or_empty : Option (List ℕ) → List ℕ
or_empty None = []
or_empty (Some name) = name

-- the name of the layer of this number
abbrev pub layer_name : Parts → ℕ → List ℕ
layer_name p layer = or_empty (slice_get p.layers layer)

-- the name of a padstack, or nothing where there is none
abbrev pub name_in : Option Padstack → List ℕ
name_in None = []
name_in (Some s) = s.name

-- the name of the padstack of this number
abbrev pub stack_name : Parts → ℕ → List ℕ
stack_name p stack = name_in (slice_get p.stacks stack)

-- a wire begins
unfoldable pub wire_open : List ℕ
wire_open = codes "        (wire\n"

-- a wire ends
unfoldable pub wire_close : List ℕ
wire_close = codes "        )\n"

-- a path begins
unfoldable pub path_open : List ℕ
path_open = codes "          (path "

-- a path ends
unfoldable pub path_close : List ℕ
path_close = codes "          )\n"

-- a point of a path, on a line of its own
unfoldable pub point_line : Pt → List ℕ
point_line p = codes "            " ++ (signed_decimal p.x ++ (codes " " ++ (signed_decimal p.y ++ codes "\n")))

-- the first line of a path: its layer's name and its width
unfoldable pub path_line : List ℕ → ℕ → List ℕ
path_line layer width = path_open ++ (name_text layer ++ (codes " " ++ (decimal width ++ codes "\n")))

-- a fixed wire says so
unfoldable pub type_line : Bool → List ℕ
type_line fix = if fix then codes "          (type fix)\n" else []

-- a wire: its path, and whether it is fixed
unfoldable pub wire_text : List ℕ → ℕ → List Pt → Bool → List ℕ
wire_text layer width points fix = wire_open ++ (path_line layer width ++ (flat_map point_line points ++ (path_close ++ (type_line fix ++ wire_close))))

-- a via begins
unfoldable pub via_open : List ℕ
via_open = codes "        (via "

-- a point behind a word of the same line
unfoldable pub point_text : Pt → List ℕ
point_text p = codes " " ++ (signed_decimal p.x ++ (codes " " ++ signed_decimal p.y))

-- a via ends, and a fixed one says so
unfoldable pub via_close : Bool → List ℕ
via_close fix = if fix then codes " (type fix))\n" else codes ")\n"

-- a via: its padstack's name, its place, and whether it is fixed
unfoldable pub via_text : List ℕ → Pt → Bool → List ℕ
via_text name place fix = via_open ++ (name_text name ++ (point_text place ++ via_close fix))

-- a wire or via as it is written; pads and keepouts are not written
abbrev pub item_text : Parts → Item → List ℕ
item_text p (items.Wire net layer width points fix) = wire_text (layer_name p layer) width points fix
item_text p (items.Via net padstack place fix) = via_text (stack_name p padstack) place fix
item_text p _ = []

-- the item is a wire of this net
abbrev pub is_wire_of : ℕ → Item → Bool
is_wire_of n (items.Wire net layer width points fix) = net == n
is_wire_of n _ = false

-- the item is a via of this net
abbrev pub is_via_of : ℕ → Item → Bool
is_via_of n (items.Via net padstack place fix) = net == n
is_via_of n _ = false

-- the item is a via of this padstack
abbrev pub uses : ℕ → Item → Bool
uses k (items.Via net padstack place fix) = padstack == k
uses k _ = false
