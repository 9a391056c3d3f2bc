-- The first reason against a request that doesn't depend on the board.
-- Cited by `static_why`; adds are counted from 1
use Rattle.std.specs.Prelude.{ℕ, ◌≡◌, ◌⊎◌, ◌≤◌, ◌<◌, ◌+◌, Option, Some, None, IsSome, List, [], ◌∷◌, length, All, Any}
use Rattle.std.specs.List.{Contains}
use Rattle.seg_geometry.specs.Points.{IsInRange}
use Rattle.seg_geometry.specs.declared.points.Pt.{Pt}
use Rattle.area_geometry.specs.Copper.{Copper}
use Rattle.area_geometry.specs.Apart.{LiesWithin}
use Rattle.board_items.specs.declared.items.Item.{Item}
use Rattle.board_items.specs.declared.requests.Add.{Add}
use Rattle.board_items.specs.declared.requests.Add.TheVariants as adds
use Rattle.board_items.specs.declared.requests.Request.{Request}
use Rattle.board_items.specs.declared.requests.Request.TheVariants as requests
use Rattle.board_items.specs.declared.history.Why.{Why}
use Rattle.board_items.specs.declared.history.Why.TheVariants as whys
use Rattle.board_items.specs.Adds.{item_of_add}
use Rattle.board_items.specs.Shapes.{copper_of_item}
use Rattle.board_rules.specs.declared.design.Parts.{Parts}
use Rattle.board_rules.specs.Classes.{width_of, vias_of}
use Rattle.board_rules.specs.Needs.{KeepsNeed}

-- there is no reason
abbrev pub Nothing : Option Why → Type 0
Nothing why = why ≡ None

-- this reason where P holds, else what the rest gives
abbrev pub First : Type 0 → Why → (Option Why → Type 0) → Option Why → Type 0
First P reason rest why = (P × (why ≡ Some reason)) ⊎ ((P → ⊥) × rest why)

-- a reason of the one, else what the rest gives
abbrev pub Then : (Option Why → Type 0) → (Option Why → Type 0) → Option Why → Type 0
Then one rest why = (IsSome why × one why) ⊎ (one None × rest why)

-- the design has no outline, or the shape lies within one of its areas
abbrev pub IsInside : List (List Pt) → Copper → Type 0
IsInside [] s = Unit {0}
IsInside (area ∷ areas) s = Any (LiesWithin s) (area ∷ areas)

-- a shape of the item isn't inside the outline
pub record IsOutside (p : Parts) (i : Item) : Type 0 where
  pub outside : All (IsInside p.outline) (copper_of_item p.stacks i) → ⊥

-- a point of a shape is out of range
pub record IsBeyond (p : Parts) (i : Item) : Type 0 where
  pub beyond : All (λ (s : Copper). All IsInRange s.points) (copper_of_item p.stacks i) → ⊥

-- there is no such padstack, or the net's vias may not have it
abbrev pub IsBarredVia : Parts → ℕ → ℕ → Type 0
IsBarredVia p net padstack = (length p.stacks ≤ padstack) ⊎ (Contains (vias_of p net) padstack → ⊥)

-- the first reason against the add of number a by itself
abbrev pub IsAddReason : Parts → ℕ → Add → Option Why → Type 0
IsAddReason p a (adds.Wire net layer width points) =
    First (length p.nets ≤ net) (whys.Net a)
    (First (length p.layers ≤ layer) (whys.Layer a)
    (First (width < width_of p net) (whys.Narrow a)
    (First (IsOutside p (item_of_add (adds.Wire net layer width points))) (whys.Outside a) Nothing)))
IsAddReason p a (adds.Via net padstack place) =
    First (length p.nets ≤ net) (whys.Net a)
    (First (IsBarredVia p net padstack) (whys.Padstack a)
    (First (IsBeyond p (item_of_add (adds.Via net padstack place))) (whys.Range a)
    (First (IsOutside p (item_of_add (adds.Via net padstack place))) (whys.Outside a) Nothing)))

-- the first reason against adds, one after another, of which the first has number a
abbrev pub IsAddsReason : Parts → ℕ → List Add → Option Why → Type 0
IsAddsReason p a [] = Nothing
IsAddsReason p a (add ∷ rest) = Then (IsAddReason p a add) (IsAddsReason p (a + 1) rest)

-- the first of the adds behind add a, the first of which has number b, that is too near to the item of add a
abbrev pub IsNearReason : Parts → List (Option ℕ) → ℕ → Item → ℕ → List Add → Option Why → Type 0
IsNearReason p rules a item b [] = Nothing
IsNearReason p rules a item b (other ∷ rest) = First (KeepsNeed p rules item (item_of_add other) → ⊥) (whys.Own a b) (IsNearReason p rules a item (b + 1) rest)

-- the least pair of adds that are too near, by the lower number and then the higher one
abbrev pub IsOwnReason : Parts → List (Option ℕ) → ℕ → List Add → Option Why → Type 0
IsOwnReason p rules a [] = Nothing
IsOwnReason p rules a (add ∷ rest) = Then (IsNearReason p rules a (item_of_add add) (a + 1) rest) (IsOwnReason p rules (a + 1) rest)

-- the first layer that isn't there
abbrev pub IsLayerReason : Parts → List ℕ → Option Why → Type 0
IsLayerReason p [] = Nothing
IsLayerReason p (layer ∷ rest) = First (length p.layers ≤ layer) (whys.FenceLayer layer) (IsLayerReason p rest)

-- the first client that is 0 or greater than the number of clients
abbrev pub IsClientReason : ℕ → List ℕ → Option Why → Type 0
IsClientReason clients [] = Nothing
IsClientReason clients (c ∷ rest) = First ((c ≡ 0) ⊎ (clients < c)) (whys.Client c) (IsClientReason clients rest)

-- the first reason under these rules against a request that doesn't depend on the board
abbrev pub IsStaticReason : Parts → List (Option ℕ) → ℕ → Request → Option Why → Type 0
IsStaticReason p rules clients (requests.Edit deletes all) =
    First ((deletes ≡ []) × (all ≡ [])) whys.Empty (Then (IsAddsReason p 1 all) (IsOwnReason p rules 1 all))
IsStaticReason p rules clients (requests.Fence layers area entitled) =
    First (length area < 3) whys.Area (Then (IsLayerReason p layers) (IsClientReason clients entitled))
IsStaticReason p rules clients (requests.Rule class clearance) = First (length p.classes ≤ class) (whys.NoClass class) Nothing
IsStaticReason p rules clients (requests.Reserve id) = Nothing
IsStaticReason p rules clients (requests.Release id) = Nothing
IsStaticReason p rules clients (requests.Unfence fence) = Nothing
IsStaticReason p rules clients (requests.Entitle fence client) = Nothing
