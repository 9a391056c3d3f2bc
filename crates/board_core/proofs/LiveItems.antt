-- A walk over live items at its end.
use Rattle.std.proofs.Common.{◌≡◌, ℕ, ◌+◌, ◌≤◌, List, [], ap}
use Rattle.std.proofs.lemmas.List.{drop_all}
use Rattle.board_items.specs.declared.items.Item.{Item}
use Rattle.number_slots.specs.Slots.{numbered, there}
use Rattle.number_slots.proofs.Walks.{walk_end}
use Rattle.board_core.specs.declared.live_items.LiveItems.{LiveItems}
use Rattle.board_core.specs.declared.live_items.LiveItems.TheVariants as walks
use Rattle.board_core.specs.LiveItems.{places_of, live_from}

-- no item is left behind the last place
pub walk_over : (l : LiveItems) (i : ℕ) → places_of l ≤ i → live_from l i ≡ []
walk_over (walks.Loaded items) i past = ap (λ (xs : List Item). numbered (i + 1) xs) (drop_all i items.now past)
walk_over (walks.OnBoard numbers items) i past = walk_end numbers.now i (there 1 items.now) past
