-- How many steps a check takes at most: for each two items that are tested the product of the counts of segments.
-- Cited by `Checker::check`
use Rattle.std.specs.Prelude.{ℕ, ◌+◌, List, [], ◌∷◌}
use Rattle.board_items.specs.declared.items.Item.{Item}
use Rattle.board_items.specs.declared.requests.Add.{Add}
use Rattle.board_items.specs.declared.requests.Request.{Request}
use Rattle.board_items.specs.declared.requests.Request.TheVariants as requests
use Rattle.board_items.specs.Adds.{item_of_add}
use Rattle.board_rules.specs.declared.design.Parts.{Parts}
use Rattle.board_rules.specs.Costs.{static_most}
use Rattle.board_rules.specs.Needs.{largest_of}
use Rattle.board_rules.specs.Rules.{with_rule}
use Rattle.board_core.specs.Boards.{Board}
use Rattle.board_core.specs.Costs.{deletes_most, adds_touch_most}
use Rattle.check_core.specs.NearCosts.{near_most, near_pairs_most}

-- each of the adds against each live item that is near by their boxes, moved out by so much
abbrev pub near_adds_most : Parts → ℕ → List (ℕ × Item) → List Add → ℕ
near_adds_most p by live [] = 0
near_adds_most p by live (add ∷ rest) = near_most p by (item_of_add add) live + near_adds_most p by live rest

-- deletes and adds against each boundary
abbrev pub fences_most : Parts → Board → List ℕ → List Add → ℕ
fences_most p b deletes adds = deletes_most p b deletes + adds_touch_most p b.fences adds

-- of an edit what it takes by itself, its adds against live items that are near, and adds and deletes against boundaries;
-- of a change of a clearance each two live items that are near under it; nothing else takes steps
abbrev pub check_most : Parts → Board → Request → ℕ
check_most p b (requests.Edit deletes adds) =
    static_most p (requests.Edit deletes adds) + (near_adds_most p (largest_of p b.rules) b.live adds + fences_most p b deletes adds)
check_most p b (requests.Rule class clearance) = near_pairs_most p (largest_of p (with_rule class clearance b.rules)) b.live
check_most p b _ = 0
