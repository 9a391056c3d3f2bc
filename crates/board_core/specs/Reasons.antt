-- Reasons that name the least number of a set, whatever the order in which it is looked for, and items that are fixed.
-- Cited by the reasons of each kind of request
use Rattle.std.specs.Prelude.{ℕ, ◌≡◌, ◌≤◌, true, Option, Some, None, List}
use Rattle.board_items.specs.declared.items.Item.{Item}
use Rattle.board_items.specs.declared.history.Why.{Why}
use Rattle.board_items.specs.Adds.{is_fixed}
use Rattle.number_slots.specs.Slots.{IsAt}

-- the reason that names the least number of which S holds, or none
abbrev pub Least : (ℕ → Type 0) → (ℕ → Why) → Option Why → Type 0
Least S say None = (n : ℕ) → S n → ⊥
Least S say (Some why) = (n : ℕ) × S n × ((m : ℕ) → S m → n ≤ m) × (why ≡ say n)

-- a fixed item is live under the number
abbrev pub IsFixedAt : List (ℕ × Item) → ℕ → Type 0
IsFixedAt live id = (item : Item) × IsAt live id item × (is_fixed item ≡ true)
