-- The limits of the formats, each once.
-- Each has the value of the constant of its name.
use Rattle.std.specs.Prelude.{ℕ}

-- the bytes of a design or a script
abbrev pub text_limit_bytes : ℕ
text_limit_bytes = 67108864

-- how deep the brackets of a design lie in one another, counted from 1
abbrev pub nesting_limit_levels : ℕ
nesting_limit_levels = 64

-- the layers of a design
abbrev pub layer_limit : ℕ
layer_limit = 32

-- the nets of a design
abbrev pub net_limit : ℕ
net_limit = 100000

-- the padstacks of a design
abbrev pub padstack_limit : ℕ
padstack_limit = 65535

-- the items that a design loads
abbrev pub item_limit : ℕ
item_limit = 200000

-- the points that a design loads
abbrev pub point_limit : ℕ
point_limit = 4000000

-- the size of a coordinate
abbrev pub coordinate_limit_nm : ℕ
coordinate_limit_nm = 1000000000

-- a width, a diameter, an aperture or a clearance
abbrev pub width_limit_nm : ℕ
width_limit_nm = 100000000

-- a line of a client, without its line feed
abbrev pub line_limit_bytes : ℕ
line_limit_bytes = 8192

-- the deletes of an edit
abbrev pub delete_limit : ℕ
delete_limit = 256

-- the adds of an edit
abbrev pub add_limit : ℕ
add_limit = 64

-- the points of a wire that is added
abbrev pub wire_point_limit : ℕ
wire_point_limit = 256

-- the clients of a board
abbrev pub client_limit : ℕ
client_limit = 8

-- the weight of a history
abbrev pub weight_limit : ℕ
weight_limit = 16777216
