-- How many steps tests of pairs take at most: for each two items that are tested the product of the counts of segments,
-- and against a boundary or an area that of the shapes whose boxes meet its box.
-- Cited by the clauses `cost`
use Rattle.std.specs.Prelude.{ℕ, ◌+◌, Bool, true, false, if◌then◌else◌, Option, Some, None, List, [], ◌∷◌}
use Rattle.seg_geometry.specs.declared.points.Pt.{Pt}
use Rattle.board_items.specs.declared.items.Item.{Item}
use Rattle.board_items.specs.declared.requests.Add.{Add}
use Rattle.board_items.specs.declared.requests.Request.{Request}
use Rattle.board_items.specs.declared.requests.Request.TheVariants as requests
use Rattle.board_items.specs.declared.history.Why.{Why}
use Rattle.board_items.specs.declared.history.Why.TheVariants as whys
use Rattle.board_items.specs.Adds.{item_of_add}
use Rattle.board_items.specs.Shapes.{copper_of_item}
use Rattle.board_rules.specs.declared.design.Parts.{Parts}
use Rattle.board_rules.specs.Costs.{pair_most, static_most}
use Rattle.number_slots.specs.Slots.{is_among, without}
use Rattle.number_slots.specs.Sums.{sum_of, sum_between}
use Rattle.boundaries.specs.Boundaries.{Boundary}
use Rattle.boundaries.specs.Costs.{shapes_most, boundary_most, overlap_most, fences_most}
use Rattle.board_core.specs.Boards.{Board}

-- an item against each of these
abbrev pub item_most : Parts → Item → List (ℕ × Item) → ℕ
item_most p item live = sum_of (pair_most p item) live

-- an item against one that has a number, if this isn't deleted
abbrev pub near_item_most : Parts → List ℕ → Item → ℕ × Item → ℕ
near_item_most p deletes item other = if is_among other.0 deletes then 0 else pair_most p item other.1

-- each of the adds against each of these
abbrev pub clashes_most : Parts → List (ℕ × Item) → List Add → ℕ
clashes_most p live [] = 0
clashes_most p live (add ∷ rest) = item_most p (item_of_add add) live + clashes_most p live rest

-- an item against each boundary
abbrev pub touch_most : Parts → List (ℕ × Boundary) → Item → ℕ
touch_most p fences item = fences_most (boundary_most (copper_of_item p.stacks item)) 0 fences

-- the live item of a number against each boundary
abbrev pub touch_at_most : Parts → Board → ℕ → ℕ
touch_at_most p b id = sum_between (touch_most p b.fences) id (id + 1) b.live

-- each of the deletes that is live against each boundary
abbrev pub deletes_most : Parts → Board → List ℕ → ℕ
deletes_most p b [] = 0
deletes_most p b (id ∷ rest) = touch_at_most p b id + deletes_most p b rest

-- each of the adds against each boundary
abbrev pub adds_touch_most : Parts → List (ℕ × Boundary) → List Add → ℕ
adds_touch_most p fences [] = 0
adds_touch_most p fences (add ∷ rest) = touch_most p fences (item_of_add add) + adds_touch_most p fences rest

-- an answer for which live items are held against adds, or against each other: none, or two that are too near
abbrev pub tests_pairs : Option Why → Bool
tests_pairs None = true
tests_pairs (Some (whys.Clash add id)) = true
tests_pairs (Some (whys.Unclean a b)) = true
tests_pairs (Some _) = false

-- an answer for which what changes is held against boundaries: one of those, or protected
abbrev pub tests_fences : Option Why → Bool
tests_fences (Some (whys.Protected fence)) = true
tests_fences why = tests_pairs why

-- the adds against what isn't deleted, where the answer needs it
abbrev pub pairs_of_edit : Parts → Board → List ℕ → List Add → Option Why → ℕ
pairs_of_edit p b deletes adds why = if tests_pairs why then clashes_most p (without deletes b.live) adds else 0

-- deletes and adds against boundaries, where the answer needs it
abbrev pub fences_of_edit : Parts → Board → List ℕ → List Add → Option Why → ℕ
fences_of_edit p b deletes adds why = if tests_fences why then deletes_most p b deletes + adds_touch_most p b.fences adds else 0

-- what is tested of an edit on a board; one that is refused for its deletes or their holders takes none
abbrev pub board_most : Parts → Board → List ℕ → List Add → Option Why → ℕ
board_most p b deletes adds why = fences_of_edit p b deletes adds why + pairs_of_edit p b deletes adds why

-- an item against an area on some layers
abbrev pub area_most : Parts → List ℕ → List Pt → Item → ℕ
area_most p layers area item = shapes_most layers area (copper_of_item p.stacks item)

-- the live item of a number against an area on some layers
abbrev pub covered_most : Parts → List (ℕ × Item) → List ℕ → List Pt → ℕ → ℕ
covered_most p live layers area id = sum_between (area_most p layers area) id (id + 1) live

-- held items, each against an area on some layers
abbrev pub held_most : Parts → List (ℕ × Item) → List ℕ → List Pt → List (ℕ × ℕ) → ℕ
held_most p live layers area [] = 0
held_most p live layers area (x ∷ rest) = covered_most p live layers area x.0 + held_most p live layers area rest

-- each two of these
abbrev pub pairs_most : Parts → List (ℕ × Item) → ℕ
pairs_most p [] = 0
pairs_most p (x ∷ rest) = item_most p x.1 rest + pairs_most p rest

-- each two live items, where the answer to a change of a clearance needs it
abbrev pub pairs_of_rule : Parts → Board → Option Why → ℕ
pairs_of_rule p b why = if tests_pairs why then pairs_most p b.live else 0

-- what is tested of a request by itself, and then on a board
abbrev pub answer_most : Parts → Board → Request → Option Why → ℕ
answer_most p b (requests.Edit deletes adds) why = static_most p (requests.Edit deletes adds) + board_most p b deletes adds why
answer_most p b (requests.Reserve id) why = touch_at_most p b id.0
answer_most p b (requests.Fence layers area clients) why =
    fences_most (overlap_most layers area) 0 b.fences + held_most p b.live layers area b.held
answer_most p b (requests.Release id) why = 0
answer_most p b (requests.Unfence fence) why = 0
answer_most p b (requests.Entitle fence client) why = 0
answer_most p b (requests.Rule class clearance) why = pairs_of_rule p b why
