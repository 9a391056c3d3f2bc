-- The live items that a walk comes to, one place after another. No public contract cites this module.
use Rattle.std.specs.Prelude.{ℕ, ◌+◌, ◌<◌, ◌^◌, List, length, drop}
use Rattle.board_items.specs.declared.items.Item.{Item}
use Rattle.number_slots.specs.Slots.{numbered, at_numbers, there}
use Rattle.board_core.specs.declared.live_items.LiveItems.{LiveItems}
use Rattle.board_core.specs.declared.live_items.LiveItems.TheVariants as walks

-- how many places a walk has
abbrev pub places_of : LiveItems → ℕ
places_of (walks.Loaded items) = length items.now
places_of (walks.OnBoard numbers items) = length numbers.now

-- the numbers of loaded items are numbers of items; those that were given are
abbrev pub AreNumbered : LiveItems → Type 0
AreNumbered (walks.Loaded items) = length items.now + 1 < 2 ^ 32
AreNumbered (walks.OnBoard numbers items) = Unit {0}

-- the items that a walk comes to from a place on, with their numbers
abbrev pub live_from : LiveItems → ℕ → List (ℕ × Item)
live_from (walks.Loaded items) i = numbered (i + 1) (drop i items.now)
live_from (walks.OnBoard numbers items) i = at_numbers (drop i numbers.now) (there 1 items.now)
