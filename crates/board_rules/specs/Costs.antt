-- How many steps the tests of a request take at most, by segments and edges.
-- Cited by `static_why`
use Rattle.std.specs.Prelude.{ℕ, ◌+◌, ◌*◌, List, [], ◌∷◌, length}
use Rattle.seg_geometry.specs.declared.points.Pt.{Pt}
use Rattle.board_items.specs.declared.items.Item.{Item}
use Rattle.board_items.specs.declared.requests.Add.{Add}
use Rattle.board_items.specs.declared.requests.Request.{Request}
use Rattle.board_items.specs.declared.requests.Request.TheVariants as requests
use Rattle.board_items.specs.Adds.{item_of_add}
use Rattle.board_items.specs.Segments.{segments_of}
use Rattle.board_rules.specs.declared.design.Parts.{Parts}

-- the edges of areas: an area has as many as points
unfoldable pub edges_of : List (List Pt) → ℕ
edges_of [] = 0
edges_of (area ∷ rest) = length area + edges_of rest

-- two items are tested against each other
abbrev pub pair_most : Parts → Item → Item → ℕ
pair_most p a b = segments_of p.stacks a * segments_of p.stacks b

-- an item is tested against the outline
abbrev pub outline_most : Parts → Item → ℕ
outline_most p i = segments_of p.stacks i * edges_of p.outline

-- each add is tested against the outline
unfoldable pub adds_most : Parts → List Add → ℕ
adds_most p [] = 0
adds_most p (add ∷ rest) = outline_most p (item_of_add add) + adds_most p rest

-- an item is tested against the items of adds
unfoldable pub near_most : Parts → Item → List Add → ℕ
near_most p item [] = 0
near_most p item (other ∷ rest) = pair_most p item (item_of_add other) + near_most p item rest

-- each two adds are tested against each other
unfoldable pub own_most : Parts → List Add → ℕ
own_most p [] = 0
own_most p (add ∷ rest) = near_most p (item_of_add add) rest + own_most p rest

-- of an edit each add is tested against the outline, and each two adds against each other; nothing else takes steps
abbrev pub static_most : Parts → Request → ℕ
static_most p (requests.Edit deletes all) = adds_most p all + own_most p all
static_most p _ = 0
