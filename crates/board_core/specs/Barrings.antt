-- When a boundary bars a client: it is live, the client isn't entitled in it, and what changes touches it.
-- Models: requests that change what lies in a boundary, and requests about boundaries. Cited by `slow_answer`, by way of
-- `IsAnswer`
use Rattle.std.specs.Prelude.{ℕ, ◌≡◌, ◌⊎◌, ◌<◌, Option, List, Any}
use Rattle.seg_geometry.specs.declared.points.Pt.{Pt}
use Rattle.board_items.specs.declared.items.Item.{Item}
use Rattle.board_items.specs.declared.requests.Add.{Add}
use Rattle.board_items.specs.declared.requests.Request.TheVariants as requests
use Rattle.board_items.specs.declared.history.Why.{Why}
use Rattle.board_items.specs.declared.history.Why.TheVariants as whys
use Rattle.board_items.specs.Adds.{item_of_add}
use Rattle.board_items.specs.Shapes.{copper_of_item}
use Rattle.board_rules.specs.declared.design.Parts.{Parts}
use Rattle.board_rules.specs.Reasons.{Nothing, First, Then, IsStaticReason}
use Rattle.number_slots.specs.Slots.{IsAt, IsThere}
use Rattle.boundaries.specs.Boundaries.{Boundary, IsEntitled, IsOwner}
use Rattle.boundaries.specs.Touching.{TouchesArea, TouchesBoundary, IsOverlapped}
use Rattle.board_core.specs.Boards.{Board}
use Rattle.board_core.specs.Reasons.{Least}

-- a live item of this number touches the boundary
pub record TouchesAt (p : Parts) (live : List (ℕ × Item)) (f : Boundary) (id : ℕ) : Type 0 where
  pub item : Item
  pub item_is : IsAt live id item
  pub touches : TouchesBoundary (copper_of_item p.stacks item) f

-- a delete that is live, or an add, touches the boundary
abbrev pub IsTouchedBy : Parts → List (ℕ × Item) → List ℕ → List Add → Boundary → Type 0
IsTouchedBy p live deletes adds f =
    Any (TouchesAt p live f) deletes ⊎ Any (λ (a : Add). TouchesBoundary (copper_of_item p.stacks (item_of_add a)) f) adds

-- the boundary n is live, the client isn't entitled in it, and these deletes or adds touch it
pub record IsBarring (p : Parts) (b : Board) (client : ℕ) (deletes : List ℕ) (adds : List Add) (n : ℕ) : Type 0 where
  pub fence : Boundary
  pub fence_is : IsAt b.fences n fence
  pub foreign : IsEntitled fence client → ⊥
  pub touched : IsTouchedBy p b.live deletes adds fence

-- the least boundary that bars a client from these deletes and adds
abbrev pub IsProtectedReason : Parts → Board → ℕ → List ℕ → List Add → Option Why → Type 0
IsProtectedReason p b client deletes adds = Least (IsBarring p b client deletes adds) whys.Protected

-- another client holds the live item of this number, which touches an area on one of these layers
pub record IsCovered (p : Parts) (b : Board) (client : ℕ) (layers : List ℕ) (area : List Pt) (id : ℕ) : Type 0 where
  pub item : Item
  pub item_is : IsAt b.live id item
  pub touches : TouchesArea (copper_of_item p.stacks item) layers area
  pub holder : ℕ
  pub held : IsAt b.held id holder
  pub other : holder ≡ client → ⊥

-- the reason that names the item of this number as covered
abbrev pub covers : ℕ → Why
covers id = whys.Covers (record { 0 = id })

-- the least boundary that an area on these layers overlaps and in which the client isn't entitled, then the least item of
-- another holder that it covers
abbrev pub IsPlaceReason : Parts → Board → ℕ → List ℕ → List Pt → Option Why → Type 0
IsPlaceReason p b client layers area =
    Then (Least (IsOverlapped b.fences layers area client) whys.Overlap) (Least (IsCovered p b client layers area) covers)

-- what a new boundary is answered: the reason by itself, and then that of its place
abbrev pub IsFenceReason : Parts → ℕ → Board → ℕ → List ℕ → List Pt → List ℕ → Option Why → Type 0
IsFenceReason p clients b client layers area entitled =
    Then (IsStaticReason p b.rules clients (requests.Fence layers area entitled)) (IsPlaceReason p b client layers area)

-- what taking a boundary away is answered: it isn't there, or the client isn't its owner
abbrev pub IsUnfenceReason : Board → ℕ → ℕ → Option Why → Type 0
IsUnfenceReason b client n =
    First (IsThere b.fences n → ⊥) (whys.NoFence n) (First (IsOwner b.fences n client → ⊥) (whys.NotOwner n) Nothing)

-- what entitling another client in a boundary is answered: what taking it away would be, then that the other is none of
-- the clients
abbrev pub IsEntitleReason : ℕ → Board → ℕ → ℕ → ℕ → Option Why → Type 0
IsEntitleReason clients b client n other =
    Then (IsUnfenceReason b client n) (First ((other ≡ 0) ⊎ (clients < other)) (whys.Client other) Nothing)
