-- What a request that is answered with no reason wasn't refused for.
use Rattle.std.proofs.Common.{◌≡◌, ℕ, List, [], ◌∷◌, inl, inr, true, false}
use Rattle.std.specs.Prelude.{◌⊎◌, Some, None}
use Rattle.board_items.specs.declared.requests.Add.{Add}
use Rattle.board_items.specs.declared.history.Why.{Why}
use Rattle.seg_geometry.specs.declared.points.Pt.{Pt}
use Rattle.board_rules.specs.declared.design.Parts.{Parts}
use Rattle.board_rules.specs.Reasons.{IsOwnReason}
use Rattle.board_rules.specs.Rules.{with_rule}
use Rattle.number_slots.specs.Slots.{IsThere}
use Rattle.board_core.specs.Boards.{Board}
use Rattle.boundaries.specs.Boundaries.{IsOwner}
use Rattle.board_core.specs.Barrings.{IsBarring, IsCovered, IsFenceReason, IsUnfenceReason, IsEntitleReason}
use Rattle.board_core.specs.Reservings.{IsReserveReason}
use Rattle.board_core.specs.Clean.{IsCleanBoard}
use Rattle.board_core.specs.Clearances.{IsRuleReason}
use Rattle.board_core.specs.Edits.{IsEditReason, IsClashReason}

-- neither of two reasons
pub then_none : {A B : Type 0} → ((false ≡ true) × A) ⊎ (A × B) → A × B
then_none (inl h) = let some : false ≡ true = h.0 in absurd cc
then_none (inr h) = h

-- the first of two reasons doesn't hold
pub first_none : {P R : Type 0} {reason : Why} → (P × (None ≡ Some reason)) ⊎ ((P → ⊥) × R) → (P → ⊥) × R
first_none {reason} (inl h) = let wrong : None ≡ Some reason = h.1 in absurd cc
first_none (inr h) = h

-- no boundary bars the client from these deletes and adds
abbrev pub IsUnbarred : Parts → Board → ℕ → List ℕ → List Add → Type 0
IsUnbarred p b client deletes adds = (n : ℕ) → IsBarring p b client deletes adds n → ⊥

-- an edit: no two of its adds are too near, no boundary bars the client, and no add is too near to what stays
pub edit_none : (p : Parts) (clients : ℕ) (b : Board) (client : ℕ) (deletes : List ℕ) (adds : List Add) → IsEditReason p clients b client deletes adds None
    → IsOwnReason p b.rules 1 adds None × IsUnbarred p b client deletes adds × IsClashReason p b.rules b.live deletes 1 adds None
edit_none p clients b client deletes adds h =
    let parts = then_none h in
    let alone = then_none (first_none parts.0).1 in
    let behind_held = then_none (then_none (then_none parts.1).1).1 in
    (alone.1, behind_held.0, behind_held.1)

-- a reserve: the item is live, and no boundary that it touches bars the client
pub reserve_none : (p : Parts) (b : Board) (client id : ℕ) → IsReserveReason p b client id None → ((IsThere b.live id → ⊥) → ⊥) × IsUnbarred p b client (id ∷ []) []
reserve_none p b client id h =
    let live = first_none h in
    (live.0, (then_none (first_none live.1).1).1)

-- a fence: it covers no item of another holder
pub fence_none : (p : Parts) (clients : ℕ) (b : Board) (client : ℕ) (layers : List ℕ) (area : List Pt) (entitled : List ℕ) → IsFenceReason p clients b client layers area entitled None → (id : ℕ) → IsCovered p b client layers area id → ⊥
fence_none p clients b client layers area entitled h = (then_none (then_none h).1).1

-- an unfence: the client owns the boundary
pub unfence_none : (b : Board) (client n : ℕ) → IsUnfenceReason b client n None → (IsOwner b.fences n client → ⊥) → ⊥
unfence_none b client n h = (first_none (first_none h).1).0

-- an entitle: the client owns the boundary
pub entitle_none : (clients : ℕ) (b : Board) (client n other : ℕ) → IsEntitleReason clients b client n other None → (IsOwner b.fences n client → ⊥) → ⊥
entitle_none clients b client n other h = unfence_none b client n (then_none h).0

-- a change of a clearance: no two live items are too near under the rules with it
pub rule_none : (p : Parts) (clients : ℕ) (b : Board) (class clearance : ℕ) → IsRuleReason p clients b class clearance None → IsCleanBoard p (with_rule class clearance b.rules) b.live
rule_none p clients b class clearance h = (then_none h).1
