-- Models: the session descriptor of the SPECCTRA reference, with padstacks and routes. Numbers are nanometres.
use Rattle.std.specs.Prelude.{ℕ, ◌+◌, Bool, ◌||◌, List, [], ◌∷◌, ◌++◌, codes, if◌then◌else◌}
use Rattle.std.specs.List.{flat_map, filter, list_any}
use Rattle.board_rules.specs.declared.design.NetRow.{NetRow}
use Rattle.board_items.specs.declared.items.Item.{Item}
use Rattle.board_rules.specs.declared.design.Parts.{Parts}
use Rattle.quoted_names.specs.Names.{name_text}
use Rattle.ses_writer.specs.Routes.{item_text, is_wire_of, is_via_of}
use Rattle.ses_writer.specs.Library.{stacks_text}

-- items as they are written, one after another
abbrev pub items_text : Parts → List (ℕ × Item) → List ℕ
items_text p live = flat_map (λ (l : ℕ × Item). item_text p l.1) live

-- the wires of a net by their numbers
abbrev pub wires_text : Parts → List (ℕ × Item) → ℕ → List ℕ
wires_text p live net = items_text p (filter (λ (l : ℕ × Item). is_wire_of net l.1) live)

-- the vias of a net by their numbers
abbrev pub vias_text : Parts → List (ℕ × Item) → ℕ → List ℕ
vias_text p live net = items_text p (filter (λ (l : ℕ × Item). is_via_of net l.1) live)

-- the net has a live wire or via
abbrev pub has_routes : List (ℕ × Item) → ℕ → Bool
has_routes live net = list_any (λ (l : ℕ × Item). is_wire_of net l.1 || is_via_of net l.1) live

-- a net begins
unfoldable pub net_open : List ℕ
net_open = codes "      (net "

-- a net ends
unfoldable pub net_close : List ℕ
net_close = codes "      )\n"

-- wires and then vias under their net's name
unfoldable pub net_text : List ℕ → List ℕ → List ℕ → List ℕ
net_text name wires vias = net_open ++ (name_text name ++ (codes "\n" ++ (wires ++ (vias ++ net_close))))

-- the nets with a live wire or via, in the design's order, from this number on
abbrev pub nets_text : Parts → List (ℕ × Item) → ℕ → List NetRow → List ℕ
nets_text p live net [] = []
nets_text p live net (row ∷ rest) =
    (if has_routes live net then net_text row.name (wires_text p live net) (vias_text p live net) else []) ++ nets_text p live (net + 1) rest

-- a session begins
unfoldable pub session_open : List ℕ
session_open = codes "(session "

-- the design's name begins
unfoldable pub design_open : List ℕ
design_open = codes "\n  (base_design "

-- the routes begin: their unit, who writes them, and the padstacks
unfoldable pub routes_open : List ℕ
routes_open = codes ")\n  (routes\n    (resolution um 1000)\n    (parser\n      (host_cad layout_server)\n      (host_version 1)\n    )\n    (library_out\n"

-- the lines before the padstacks
unfoldable pub front_text : List ℕ → List ℕ
front_text name = session_open ++ (name_text name ++ (design_open ++ (name_text name ++ routes_open)))

-- the lines between padstacks and nets
unfoldable pub middle_text : List ℕ
middle_text = codes "    )\n    (network_out\n"

-- the lines behind the nets
unfoldable pub back_text : List ℕ
back_text = codes "    )\n  )\n)\n"

-- the session of a design and its live items
unfoldable pub session_of : Parts → List (ℕ × Item) → List ℕ
session_of p live = front_text p.name ++ (stacks_text p live 0 p.stacks ++ (middle_text ++ (nets_text p live 0 p.nets ++ back_text)))
