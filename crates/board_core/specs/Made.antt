-- How adds become slots. No public contract cites this module.
use Rattle.std.specs.Prelude.{Option, Some, None, nat_le, if◌then◌else◌}
use Rattle.board_items.specs.declared.items.Item.{Item}
use Rattle.board_items.specs.declared.requests.Add.{Add}
use Rattle.board_items.specs.Adds.{item_of_add, layer_of_add}

-- what an add makes, if anything
abbrev pub made_item : Add → Option Item
made_item add = if nat_le (layer_of_add add) 255 then Some (item_of_add add) else None
