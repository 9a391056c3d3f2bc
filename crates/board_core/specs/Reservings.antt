-- What reserving and releasing an item is answered on a board.
-- Cited by `slow_answer`, by way of `IsAnswer`
use Rattle.std.specs.Prelude.{ℕ, ◌≡◌, Option, Some, None, List, [], ◌∷◌}
use Rattle.board_items.specs.declared.history.Why.{Why}
use Rattle.board_items.specs.declared.history.Why.TheVariants as whys
use Rattle.board_rules.specs.declared.design.Parts.{Parts}
use Rattle.board_rules.specs.Reasons.{Nothing, First, Then}
use Rattle.number_slots.specs.Slots.{IsAt, IsThere}
use Rattle.board_core.specs.Boards.{Board}
use Rattle.board_core.specs.Reasons.{IsFixedAt}
use Rattle.board_core.specs.Barrings.{IsProtectedReason}

-- the reason that names the client who holds the item, whoever it is; none where nobody does
abbrev pub IsHolderReason : List (ℕ × ℕ) → ℕ → Option Why → Type 0
IsHolderReason held id None = IsThere held id → ⊥
IsHolderReason held id (Some why) = (holder : ℕ) × IsAt held id holder × (why ≡ whys.Reserved (record { 0 = id }) holder)

-- what reserving an item is answered
abbrev pub IsReserveReason : Parts → Board → ℕ → ℕ → Option Why → Type 0
IsReserveReason p b client id =
    First (IsThere b.live id → ⊥) (whys.Missing (record { 0 = id }))
    (First (IsFixedAt b.live id) (whys.Fixed (record { 0 = id }))
    (Then (IsHolderReason b.held id) (IsProtectedReason p b client (id ∷ []) [])))

-- what releasing an item is answered
abbrev pub IsReleaseReason : Board → ℕ → ℕ → Option Why → Type 0
IsReleaseReason b client id =
    First (IsThere b.live id → ⊥) (whys.Missing (record { 0 = id }))
    (First (IsAt b.held id client → ⊥) (whys.Unheld (record { 0 = id })) Nothing)
