-- Boundaries by their number: who may change what lies in an area on some layers.
-- Models: protection boundaries with an owner and entitled clients. Left out: the number of a boundary, which stands
-- beside it. Cited by the calls of `Fences`
use Rattle.std.specs.Prelude.{ℕ, ◌≡◌, ◌≤◌, ◌==◌, ◌⊎◌, nat_lt, true, if◌then◌else◌, Option, Some, None, List, [], ◌∷◌, length, map, All}
use Rattle.seg_geometry.specs.declared.points.Pt.{Pt}
use Rattle.seg_geometry.specs.Points.{IsInRange}
use Rattle.number_slots.specs.Slots.{is_among, IsAt}

-- an area on some layers, the client that drew it, and the clients that are entitled in it beside the owner
pub record Boundary : Type 0 where
  pub owner : ℕ
  pub layers : List ℕ
  pub area : List Pt
  pub clients : List ℕ

-- room for one more boundary, of so many layers and points
pub record Space : Type 0 where
  pub layers : ℕ
  pub points : ℕ

-- the live boundaries in the order of their numbers, the number that was given last, and the room that was made, if any
pub record Fencing : Type 0 where
  pub fences : List (ℕ × Boundary)
  pub last : ℕ
  pub room : Option Space

-- the boundaries and the last number are the same; nothing is said of the room
pub record IsSameFencing (old new : Fencing) : Type 0 where
  pub fences : new.fences ≡ old.fences
  pub last : new.last ≡ old.last

-- a boundary of these layers and points fits the room
abbrev pub Fits : Option Space → List ℕ → List Pt → Type 0
Fits None layers area = ⊥
Fits (Some space) layers area = (length layers ≤ space.layers) × (length area ≤ space.points)

-- room was made for a boundary of these layers and points
abbrev pub HasRoomFor : Fencing → List ℕ → List Pt → Type 0
HasRoomFor f layers area = Fits f.room layers area

-- rising clients with one more, where it isn't there
abbrev pub with_client : ℕ → List ℕ → List ℕ
with_client client [] = client ∷ []
with_client client (c ∷ rest) =
    if nat_lt client c then client ∷ c ∷ rest else if client == c then c ∷ rest else c ∷ with_client client rest

-- rising clients with each of these
abbrev pub with_clients : List ℕ → List ℕ → List ℕ
with_clients [] clients = clients
with_clients (client ∷ rest) clients = with_clients rest (with_client client clients)

-- a new boundary: its entitled clients rise, and each stands once
abbrev pub boundary_of : ℕ → List ℕ → List Pt → List ℕ → Boundary
boundary_of owner layers area clients = record { owner = owner; layers = layers; area = area; clients = with_clients clients [] }

-- the boundary under its number; an area of fewer than 3 points makes none
abbrev pub fence_made : ℕ → Boundary → List (ℕ × Boundary)
fence_made n b = if nat_lt (length b.area) 3 then [] else (n, b) ∷ []

-- the boundary with one more entitled client
abbrev pub entitling : ℕ → Boundary → Boundary
entitling client b = record b { clients = with_client client b.clients }

-- the boundaries, of which that of this number entitles one more client
abbrev pub entitled_at : ℕ → ℕ → List (ℕ × Boundary) → List (ℕ × Boundary)
entitled_at fence client fences = map (λ x. if x.0 == fence then (x.0, entitling client x.1) else x) fences

-- the client may change what lies in the boundary
abbrev pub IsEntitled : Boundary → ℕ → Type 0
IsEntitled b client = (b.owner ≡ client) ⊎ (is_among client b.clients ≡ true)

-- there is a live boundary of this number, in which the client is entitled
pub record IsEntitledAt (fences : List (ℕ × Boundary)) (n client : ℕ) : Type 0 where
  pub boundary : Boundary
  pub boundary_is : IsAt fences n boundary
  pub entitled : IsEntitled boundary client

-- there is a live boundary of this number, which the client drew
pub record IsOwner (fences : List (ℕ × Boundary)) (n client : ℕ) : Type 0 where
  pub boundary : Boundary
  pub boundary_is : IsAt fences n boundary
  pub owner : boundary.owner ≡ client

-- an area has at least 3 points, all in range
pub record IsFitArea (area : List Pt) : Type 0 where
  pub enough : 3 ≤ length area
  pub in_range : All IsInRange area
