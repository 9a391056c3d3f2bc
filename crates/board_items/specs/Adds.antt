-- What an add makes, what a borrowed item is, and which items can't be deleted.
use Rattle.std.specs.Prelude.{ℕ, Bool, false, true}
use Rattle.board_items.specs.declared.items.Item.{Item}
use Rattle.board_items.specs.declared.items.Item.TheVariants as items
use Rattle.board_items.specs.declared.requests.Add.{Add}
use Rattle.board_items.specs.declared.requests.Add.TheVariants as adds
use Rattle.board_items.specs.declared.views.ItemView.{ItemView}
use Rattle.board_items.specs.declared.views.ItemView.TheVariants as views

-- the layer that a wire names; a via names none, which counts as 0
abbrev pub layer_of_add : Add → ℕ
layer_of_add (adds.Wire net layer width points) = layer
layer_of_add (adds.Via net padstack place) = 0

-- the item that an add makes
abbrev pub item_of_add : Add → Item
item_of_add (adds.Wire net layer width points) = items.Wire net layer width points false
item_of_add (adds.Via net padstack place) = items.Via net padstack place false

-- the item that is borrowed
abbrev pub item_seen : ItemView → Item
item_seen (views.Wire net layer width points fix) = items.Wire net layer width points.now fix
item_seen (views.Via net padstack place fix) = items.Via net padstack place fix
item_seen (views.Pad net shapes) = items.Pad net shapes.now
item_seen (views.Keep kind shapes) = items.Keep kind shapes.now

-- the item can't be deleted
abbrev pub is_fixed : Item → Bool
is_fixed (items.Wire net layer width points fix) = fix
is_fixed (items.Via net padstack place fix) = fix
is_fixed (items.Pad net shapes) = true
is_fixed (items.Keep kind shapes) = true
