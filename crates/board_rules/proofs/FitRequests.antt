-- Adds against which there is no reason are fit.
use Rattle.std.proofs.Common.{◌≡◌, ℕ, zero, suc, ◌+◌, ◌≤◌, ◌<◌, ◌^◌, List, [], ◌∷◌, length, map, get_or, false, true, arith, inl, inr}
use Rattle.std.specs.Prelude.{Option, Some, None, IfNone, slice_get, All, ◌⊎◌, unsigned_abs}
use Rattle.std.specs.List.{AllByRecursion}
use Rattle.std.proofs.lemmas.List.{length-map}
use Rattle.std.proofs.lemmas.List.Elements.{All-nil, All-cons, All-head, All-tail, All-from_recursion}
use Rattle.std.proofs.lemmas.Bool.{cases_lt}
use Rattle.seg_geometry.specs.Points.{IsInRange}
use Rattle.seg_geometry.specs.declared.points.Pt.{Pt}
use Rattle.area_geometry.specs.Copper.{Copper, IsWithinLimits, placed}
use Rattle.area_geometry.specs.declared.shapes.Shape.{Shape}
use Rattle.board_items.specs.declared.items.Item.{Item}
use Rattle.board_items.specs.declared.items.Item.TheVariants as items
use Rattle.board_items.specs.declared.items.Padstack.{Padstack}
use Rattle.board_items.specs.declared.requests.Add.{Add}
use Rattle.board_items.specs.declared.requests.Add.TheVariants as adds
use Rattle.board_items.specs.declared.requests.Request.{Request}
use Rattle.board_items.specs.declared.requests.Request.TheVariants as requests
use Rattle.board_items.specs.declared.history.Why.{Why}
use Rattle.board_items.specs.declared.history.Why.TheVariants as whys
use Rattle.board_items.specs.Adds.{item_of_add}
use Rattle.board_items.specs.Formed.{IsFormed, IsFormedAdd, IsFormedWire}
use Rattle.board_items.specs.Shapes.{chain_on, copper_of_item, shapes_of}
use Rattle.board_rules.specs.declared.design.Parts.{Parts}
use Rattle.board_rules.specs.Designs.{HasEnough, IsFitItem, IsFitShape, IsSound}
use Rattle.board_rules.specs.Reasons.{Nothing, First, Then, IsOutside, IsBeyond, IsBarredVia, IsAddReason, IsAddsReason, IsOwnReason, IsStaticReason}
use Rattle.board_rules.specs.Classes.{width_of}
use Rattle.board_rules.specs.FitAdds.{IsFitAdd, HasFitAdds}
use Rattle.board_rules.proofs.Cores.{placed_cores}

-- where there is no reason, the line doesn't apply and the rest gives none
pub no_first : (P : Type 0) (reason : Why) (rest : Option Why → Type 0) → First P reason rest None → (P → ⊥) × rest None
no_first P reason rest (inl h) = absurd cc
no_first P reason rest (inr h) = h

two_lines : (P Q : Type 0) (r s : Why) (rest : Option Why → Type 0) → First P r (First Q s rest) None → (P → ⊥) × (Q → ⊥)
two_lines P Q r s rest h =
    let one = no_first P r (First Q s rest) h in
    let two = no_first Q s rest one.1 in
    (one.0, two.0)

pub no_then : (one rest : Option Why → Type 0) → Then one rest None → one None × rest None
no_then one rest (inl h) = let some : false ≡ true = h.0 in absurd cc
no_then one rest (inr h) = h

-- what holds anyway holds where there is none
pub kept_if_none : (why : Option Why) (P : Type 0) → P → IfNone why P
kept_if_none None P h = h
kept_if_none (Some why) P h = tt

-- a wire whose net and layer are there is fit
pub wire_fits : (p : Parts) (net layer width : ℕ) (points : List Pt) → IsFormedWire net layer width points → net < length p.nets → layer < length p.layers → IsFitItem p (items.Wire net layer width points false)
wire_fits p net layer width points formed net_there layer_there = record {
  there = (net_there, layer_there);
  copper = All-cons IsWithinLimits (chain_on layer width points) [] (record { points = All-from_recursion IsInRange points formed.in_range; width = formed.width_fits }) (All-nil IsWithinLimits);
  cores = All-cons HasEnough (chain_on layer width points) [] (let two = formed.two_points in omega (arith, two)) (All-nil HasEnough);
  few = omega arith;
}

-- what holds of the shapes of each padstack and of no shapes holds of those that a number names
of_stack : (Q : List Shape → Type 0) → Q [] → (stacks : List Padstack) (n : ℕ) → AllByRecursion (λ (s : Padstack). Q s.shapes) stacks → Q (shapes_of (slice_get stacks n))
of_stack Q none [] n all = none
of_stack Q none (s ∷ rest) zero all = all.0
of_stack Q none (s ∷ rest) (suc n) all = of_stack Q none rest n all.1

-- placed shapes of a padstack that are in range are within the limits
placed_fits : (place : Pt) (layers : ℕ) (shapes : List Shape) → AllByRecursion (IsFitShape layers) shapes → All (λ (s : Copper). All IsInRange s.points) (map (placed place) shapes) → All IsWithinLimits (map (placed place) shapes)
placed_fits place layers [] fit within = All-nil IsWithinLimits
placed_fits place layers (s ∷ rest) fit within =
    All-cons IsWithinLimits (placed place s) (map (placed place) rest)
    (record { points = All-head (λ (t : Copper). All IsInRange t.points) (placed place s) (map (placed place) rest) within; width = fit.0.width })
    (placed_fits place layers rest fit.1 (All-tail (λ (t : Copper). All IsInRange t.points) (placed place s) (map (placed place) rest) within))

-- a via whose net and padstack are there, and which is in range, is fit
pub via_fits : (p : Parts) (net padstack : ℕ) (place : Pt) → IsSound p → net < length p.nets → padstack < length p.stacks
    → All (λ (s : Copper). All IsInRange s.points) (copper_of_item p.stacks (items.Via net padstack place false)) → IsFitItem p (items.Via net padstack place false)
via_fits p net padstack place sound net_there stack_there within = record {
  there = (net_there, stack_there);
  copper = placed_fits place (length p.layers) (shapes_of (slice_get p.stacks padstack)) (of_stack (AllByRecursion (IsFitShape (length p.layers))) tt p.stacks padstack sound.stacks) within;
  cores = placed_cores place (length p.layers) (shapes_of (slice_get p.stacks padstack)) (of_stack (AllByRecursion (IsFitShape (length p.layers))) tt p.stacks padstack sound.stacks);
  few = rw length-map (of_stack (λ shapes. length shapes < 2 ^ 32) (omega arith) p.stacks padstack sound.few_shapes);
}

in_range_if : (p : Pt) → ((IsInRange p → ⊥) → ⊥) → (1000000000 < unsigned_abs p.x) ⊎ (unsigned_abs p.x ≤ 1000000000) → (1000000000 < unsigned_abs p.y) ⊎ (unsigned_abs p.y ≤ 1000000000) → IsInRange p
in_range_if p h (inl x) y = absurd (h (λ r. let k : unsigned_abs p.x ≤ 1000000000 = r.x in omega arith))
in_range_if p h (inr x) (inl y) = absurd (h (λ r. let k : unsigned_abs p.y ≤ 1000000000 = r.y in omega arith))
in_range_if p h (inr x) (inr y) = record { x = x; y = y }

-- an item of which no point is beyond the range is in range
pub not_beyond : (p : Parts) (i : Item) → (IsBeyond p i → ⊥) → All (λ (s : Copper). All IsInRange s.points) (copper_of_item p.stacks i)
not_beyond p i none = λ k d lt m e in'.
    let q : Pt = get_or (get_or (copper_of_item p.stacks i) k d).points m e in
    in_range_if q (λ out. none (record { beyond = λ all. out (all k d lt m e in') })) (cases_lt 1000000000 (unsigned_abs q.x)) (cases_lt 1000000000 (unsigned_abs q.y))

there_if : (n count : ℕ) → (count ≤ n → ⊥) → n < count
there_if n count h = omega (arith, h)

wire_add_fits : (p : Parts) (net layer width : ℕ) (points : List Pt) → IsSound p → IsFormedWire net layer width points → (length p.nets ≤ net → ⊥) × (length p.layers ≤ layer → ⊥) → IsFitAdd p (adds.Wire net layer width points)
wire_add_fits p net layer width points sound formed lines =
    let net_there : net < length p.nets = there_if net (length p.nets) lines.0 in
    let layer_there : layer < length p.layers = there_if layer (length p.layers) lines.1 in
    let few : length p.layers ≤ 32 = sound.few_layers in
    record { layer = omega arith; item = wire_fits p net layer width points formed net_there layer_there }

via_add_fits : (p : Parts) (net padstack : ℕ) (place : Pt) → IsSound p → (length p.nets ≤ net → ⊥) → (IsBarredVia p net padstack → ⊥) → (IsBeyond p (items.Via net padstack place false) → ⊥) → IsFitAdd p (adds.Via net padstack place)
via_add_fits p net padstack place sound net_line stack_line range_line =
    let net_there : net < length p.nets = there_if net (length p.nets) net_line in
    let stack_there : padstack < length p.stacks = there_if padstack (length p.stacks) (λ h. stack_line (inl h)) in
    record { layer = omega arith; item = via_fits p net padstack place sound net_there stack_there (not_beyond p (items.Via net padstack place false) range_line) }

-- an add against which there is no reason by itself is fit
pub add_fits : (p : Parts) (a : ℕ) (add : Add) → IsSound p → IsFormedAdd add → IsAddReason p a add None → IsFitAdd p add
add_fits p a (adds.Wire net layer width points) sound formed none =
    wire_add_fits p net layer width points sound formed
    (two_lines (length p.nets ≤ net) (length p.layers ≤ layer) (whys.Net a) (whys.Layer a)
    (First (width < width_of p net) (whys.Narrow a) (First (IsOutside p (item_of_add (adds.Wire net layer width points))) (whys.Outside a) Nothing)) none)
add_fits p a (adds.Via net padstack place) sound formed none =
    let outside = First (IsOutside p (item_of_add (adds.Via net padstack place))) (whys.Outside a) Nothing in
    let range = First (IsBeyond p (item_of_add (adds.Via net padstack place))) (whys.Range a) outside in
    let one = no_first (length p.nets ≤ net) (whys.Net a) (First (IsBarredVia p net padstack) (whys.Padstack a) range) none in
    let two = no_first (IsBarredVia p net padstack) (whys.Padstack a) range one.1 in
    let three = no_first (IsBeyond p (item_of_add (adds.Via net padstack place))) (whys.Range a) outside two.1 in
    via_add_fits p net padstack place sound one.0 two.0 three.0

-- adds against which there is no reason by themselves are fit
pub adds_fit : (p : Parts) (a : ℕ) (all : List Add) → IsSound p → AllByRecursion IsFormedAdd all → IsAddsReason p a all None → AllByRecursion (IsFitAdd p) all
adds_fit p a [] sound formed none = tt
adds_fit p a (add ∷ rest) sound formed none =
    let parts = no_then (IsAddReason p a add) (IsAddsReason p (a + 1) rest) none in
    (add_fits p a add sound formed.0 parts.0, adds_fit p (a + 1) rest sound formed.1 parts.1)

-- the adds of a request against which there is no reason are fit
pub request_fits : (p : Parts) (us : List (Option ℕ)) (clients : ℕ) (request : Request) → IsSound p → IsFormed request → IsStaticReason p us clients request None → HasFitAdds p request
request_fits p us clients (requests.Edit deletes all) sound formed none =
    let later = no_first ((deletes ≡ []) × (all ≡ [])) whys.Empty (Then (IsAddsReason p 1 all) (IsOwnReason p us 1 all)) none in
    adds_fit p 1 all sound formed.formed (no_then (IsAddsReason p 1 all) (IsOwnReason p us 1 all) later.1).0
request_fits p us clients (requests.Reserve id) sound formed none = tt
request_fits p us clients (requests.Release id) sound formed none = tt
request_fits p us clients (requests.Fence layers area entitled) sound formed none = tt
request_fits p us clients (requests.Unfence fence) sound formed none = tt
request_fits p us clients (requests.Entitle fence client) sound formed none = tt
request_fits p us clients (requests.Rule class clearance) sound formed none = tt
