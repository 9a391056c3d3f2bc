-- How many steps the tests take that an index leaves: only items of which boxes on one layer meet are tested.
-- Cited by the calls that look for near live items
use Rattle.std.specs.Prelude.{ℕ, ◌+◌, Bool, nat_le, if◌then◌else◌, List, [], ◌∷◌}
use Rattle.std.specs.List.{filter, list_any}
use Rattle.area_geometry.specs.Boxes.{are_boxes_near}
use Rattle.board_items.specs.declared.items.Item.{Item}
use Rattle.board_items.specs.declared.items.Padstack.{Padstack}
use Rattle.board_items.specs.Shapes.{copper_of_item}
use Rattle.board_rules.specs.declared.design.Parts.{Parts}
use Rattle.board_rules.specs.Costs.{pair_most}
use Rattle.number_slots.specs.Sums.{sum_of}

-- whether both have a shape on one layer whose boxes meet, with that of the first moved out by `by` more
abbrev pub are_items_near : List Padstack → ℕ → Item → Item → Bool
are_items_near stacks by a b = list_any (λ s. list_any (are_boxes_near by s) (copper_of_item stacks b)) (copper_of_item stacks a)

-- two items against each other, where they are near
unfoldable pub near_pair_most : Parts → ℕ → Item → Item → ℕ
near_pair_most p by a b = if are_items_near p.stacks by a b then pair_most p a b else 0

-- an item against each of these that is near
abbrev pub near_most : Parts → ℕ → Item → List (ℕ × Item) → ℕ
near_most p by item live = sum_of (near_pair_most p by item) live

-- each two of these that are near
abbrev pub near_pairs_most : Parts → ℕ → List (ℕ × Item) → ℕ
near_pairs_most p by [] = 0
near_pairs_most p by (x ∷ rest) = near_most p by x.1 rest + near_pairs_most p by rest

-- those of numbers from n on
abbrev pub from_on : {T : Type 0} → ℕ → List (ℕ × T) → List (ℕ × T)
from_on n live = filter (λ x. nat_le n x.0) live
