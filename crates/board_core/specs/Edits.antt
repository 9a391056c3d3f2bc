-- What an edit is answered on a board: the first reason against it, or none.
-- Cited by `slow_answer`, by way of `IsAnswer`; adds are counted from 1
use Rattle.std.specs.Prelude.{ℕ, ◌≡◌, ◌+◌, Option, Some, None, List, [], ◌∷◌, ◌++◌, true, false}
use Rattle.board_items.specs.declared.items.Item.{Item}
use Rattle.board_items.specs.declared.requests.Add.{Add}
use Rattle.board_items.specs.declared.requests.Request.TheVariants as requests
use Rattle.board_items.specs.declared.history.Why.{Why}
use Rattle.board_items.specs.declared.history.Why.TheVariants as whys
use Rattle.board_items.specs.Adds.{item_of_add}
use Rattle.board_rules.specs.declared.design.Parts.{Parts}
use Rattle.board_rules.specs.Needs.{KeepsNeed}
use Rattle.board_rules.specs.Reasons.{Nothing, First, Then, IsStaticReason}
use Rattle.number_slots.specs.Slots.{is_among, IsAt, IsThere}
use Rattle.board_core.specs.Boards.{Board}
use Rattle.board_core.specs.Reasons.{Least, IsFixedAt}
use Rattle.board_core.specs.Barrings.{IsProtectedReason}

-- the first reason against the delete of a number, where these numbers stand before it
abbrev pub IsDeleteReason : List (ℕ × Item) → List ℕ → ℕ → Option Why → Type 0
IsDeleteReason live before id =
    First (is_among id before ≡ true) (whys.Repeated (record { 0 = id }))
    (First (IsThere live id → ⊥) (whys.Missing (record { 0 = id }))
    (First (IsFixedAt live id) (whys.Fixed (record { 0 = id })) Nothing))

-- the first reason against deletes, one after another
abbrev pub IsDeletesReason : List (ℕ × Item) → List ℕ → List ℕ → Option Why → Type 0
IsDeletesReason live before [] = Nothing
IsDeletesReason live before (id ∷ rest) = Then (IsDeleteReason live before id) (IsDeletesReason live (before ++ id ∷ []) rest)

-- the reason that names another client than this one who holds the item; none where nobody does, or the client itself
abbrev pub IsOtherReason : List (ℕ × ℕ) → ℕ → ℕ → Option Why → Type 0
IsOtherReason held client id None = (holder : ℕ) → IsAt held id holder → holder ≡ client
IsOtherReason held client id (Some why) =
    (holder : ℕ) × IsAt held id holder × (holder ≡ client → ⊥) × (why ≡ whys.Reserved (record { 0 = id }) holder)

-- the first of the deletes that another client holds
abbrev pub IsHeldReason : List (ℕ × ℕ) → ℕ → List ℕ → Option Why → Type 0
IsHeldReason held client [] = Nothing
IsHeldReason held client (id ∷ rest) = Then (IsOtherReason held client id) (IsHeldReason held client rest)

-- an item that has a number isn't deleted, and is too near to an item under these rules
abbrev pub IsNearItem : Parts → List (Option ℕ) → List ℕ → Item → ℕ × Item → Type 0
IsNearItem p rules deletes item other = (KeepsNeed p rules item other.1 → ⊥) × (is_among other.0 deletes ≡ false)

-- the live item of this number isn't deleted, and is too near to an item under these rules
pub record IsNear (p : Parts) (rules : List (Option ℕ)) (live : List (ℕ × Item)) (deletes : List ℕ) (item : Item) (id : ℕ) : Type 0 where
  pub other : Item
  pub other_is : IsAt live id other
  pub near : KeepsNeed p rules item other → ⊥
  pub stays : is_among id deletes ≡ false

-- an add and a live item that are too near
abbrev pub clash : ℕ → ℕ → Why
clash add id = whys.Clash add (record { 0 = id })

-- the least add, of those from number a on, and then the least live item that isn't deleted, that are too near under these
-- rules
abbrev pub IsClashReason : Parts → List (Option ℕ) → List (ℕ × Item) → List ℕ → ℕ → List Add → Option Why → Type 0
IsClashReason p rules live deletes a [] = Nothing
IsClashReason p rules live deletes a (add ∷ rest) =
    Then (Least (IsNear p rules live deletes (item_of_add add)) (clash a)) (IsClashReason p rules live deletes (a + 1) rest)

-- the first reason of the board against an edit: of its deletes, of who holds them, of boundaries, then a clash under the
-- board's rules with what isn't deleted
abbrev pub IsBoardReason : Parts → Board → ℕ → List ℕ → List Add → Option Why → Type 0
IsBoardReason p b client deletes adds =
    Then (IsDeletesReason b.live [] deletes)
    (Then (IsHeldReason b.held client deletes)
    (Then (IsProtectedReason p b client deletes adds) (IsClashReason p b.rules b.live deletes 1 adds)))

-- what an edit of a client is answered: the first reason by itself, and then that of the board
abbrev pub IsEditReason : Parts → ℕ → Board → ℕ → List ℕ → List Add → Option Why → Type 0
IsEditReason p clients b client deletes adds =
    Then (IsStaticReason p b.rules clients (requests.Edit deletes adds)) (IsBoardReason p b client deletes adds)
