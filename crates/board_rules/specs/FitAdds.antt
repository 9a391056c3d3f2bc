-- Adds whose items are fit to be put on a board.
-- Cited by `static_why`
use Rattle.std.specs.Prelude.{◌≤◌}
use Rattle.std.specs.List.{AllByRecursion}
use Rattle.board_items.specs.Adds.{item_of_add, layer_of_add}
use Rattle.board_items.specs.declared.requests.Add.{Add}
use Rattle.board_items.specs.declared.requests.Request.{Request}
use Rattle.board_items.specs.declared.requests.Request.TheVariants as requests
use Rattle.board_rules.specs.Designs.{IsFitItem}
use Rattle.board_rules.specs.declared.design.Parts.{Parts}

-- a wire's layer fits an item, and the item is one that the design may have
pub record IsFitAdd (p : Parts) (add : Add) : Type 0 where
  pub layer : layer_of_add add ≤ 255
  pub item : IsFitItem p (item_of_add add)

-- the adds of an edit are fit; no other request has adds
abbrev pub HasFitAdds : Parts → Request → Type 0
HasFitAdds p (requests.Edit deletes all) = AllByRecursion (IsFitAdd p) all
HasFitAdds p (requests.Reserve id) = Unit {0}
HasFitAdds p (requests.Release id) = Unit {0}
HasFitAdds p (requests.Fence layers area clients) = Unit {0}
HasFitAdds p (requests.Unfence fence) = Unit {0}
HasFitAdds p (requests.Entitle fence client) = Unit {0}
HasFitAdds p (requests.Rule class clearance) = Unit {0}
