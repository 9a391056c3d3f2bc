-- The least item of another holder that an area covers, one reservation after another.
use Rattle.std.proofs.Common.{◌≡◌, ℕ, List, [], ◌∷◌, refl, sym, subst, ◌∙◌, arith, inl, inr}
use Rattle.std.specs.Prelude.{Option, Some, None}
use Rattle.seg_geometry.specs.declared.points.Pt.{Pt}
use Rattle.board_items.specs.declared.items.Item.{Item}
use Rattle.board_items.specs.Shapes.{copper_of_item}
use Rattle.board_rules.specs.declared.design.Parts.{Parts}
use Rattle.number_slots.specs.Slots.{IsAt, IsThere}
use Rattle.number_slots.specs.Leasts.{IsLeast}
use Rattle.boundaries.specs.Touching.{TouchesArea}
use Rattle.board_core.specs.Boards.{Board}
use Rattle.board_core.specs.Bars.{IsCoveredPair}
use Rattle.board_core.specs.Barrings.{IsCovered}
use Rattle.board_core.proofs.Leasts.{AnyOf, least_same}

-- ---- one reservation

-- the client's own item
pub pair_own : (p : Parts) (live : List (ℕ × Item)) (client : ℕ) (layers : List ℕ) (area : List Pt) (id holder : ℕ) → holder ≡ client → IsLeast (IsCoveredPair p live client layers area (id, holder)) None
pair_own p live client layers area id holder own = λ n k. k.other own

-- an item that isn't live
pub pair_gone : (p : Parts) (live : List (ℕ × Item)) (client : ℕ) (layers : List ℕ) (area : List Pt) (id holder : ℕ) → (IsThere live id → ⊥) → IsLeast (IsCoveredPair p live client layers area (id, holder)) None
pair_gone p live client layers area id holder none = λ n k. none (k.item, subst (λ (m : ℕ). IsAt live m k.item) (sym k.id_is) k.item_is)

-- one that doesn't touch the area
pub pair_apart : (p : Parts) (live : List (ℕ × Item)) (client : ℕ) (layers : List ℕ) (area : List Pt) (id holder : ℕ) (item : Item) → ((x : Item) → IsAt live id x → x ≡ item) → (TouchesArea (copper_of_item p.stacks item) layers area → ⊥)
    → IsLeast (IsCoveredPair p live client layers area (id, holder)) None
pair_apart p live client layers area id holder item only apart = λ n k.
    let at : IsAt live id k.item = subst (λ (m : ℕ). IsAt live m k.item) (sym k.id_is) k.item_is in
    apart (subst (λ (x : Item). TouchesArea (copper_of_item p.stacks x) layers area) (only k.item at) k.touches)

-- one that does
pub pair_touched : (p : Parts) (live : List (ℕ × Item)) (client : ℕ) (layers : List ℕ) (area : List Pt) (id holder : ℕ) (item : Item) → (holder ≡ client → ⊥) → IsAt live id item → TouchesArea (copper_of_item p.stacks item) layers area
    → IsLeast (IsCoveredPair p live client layers area (id, holder)) (Some id)
pair_touched p live client layers area id holder item other here touches = (record { id_is = refl; other = other; item = item; item_is = here; touches = touches }, λ n k. omega (arith, k.id_is))

-- ---- all of them

covers_out : (p : Parts) (live : List (ℕ × Item)) (client : ℕ) (layers : List ℕ) (area : List Pt) (held : List (ℕ × ℕ)) (id : ℕ) → AnyOf (λ x. IsCoveredPair p live client layers area x id) held
    → (holder : ℕ) × IsAt held id holder × (holder ≡ client → ⊥) × ((item : Item) × IsAt live id item × TouchesArea (copper_of_item p.stacks item) layers area)
covers_out p live client layers area [] id h = absurd h
covers_out p live client layers area (x ∷ rest) id (inl h) = (x.1, inl (h.id_is, refl), h.other, (h.item, h.item_is, h.touches))
covers_out p live client layers area (x ∷ rest) id (inr h) = let k = covers_out p live client layers area rest id h in (k.0, inr k.1, k.2, k.3)

covers_in : (p : Parts) (live : List (ℕ × Item)) (client : ℕ) (layers : List ℕ) (area : List Pt) (held : List (ℕ × ℕ)) (id holder : ℕ) (item : Item) → IsAt held id holder → (holder ≡ client → ⊥) → IsAt live id item → TouchesArea (copper_of_item p.stacks item) layers area
    → AnyOf (λ x. IsCoveredPair p live client layers area x id) held
covers_in p live client layers area [] id holder item at other here touches = absurd at
covers_in p live client layers area (x ∷ rest) id holder item (inl at) other here touches =
    inl (record { id_is = at.0; other = λ own. other (sym at.1 ∙ own); item = item; item_is = here; touches = touches })
covers_in p live client layers area (x ∷ rest) id holder item (inr at) other here touches = inr (covers_in p live client layers area rest id holder item at other here touches)

-- what one of the reservations gives is what is covered
pub covers_least : (p : Parts) (b : Board) (client : ℕ) (layers : List ℕ) (area : List Pt) (r : Option ℕ) → IsLeast (λ id. AnyOf (λ x. IsCoveredPair p b.live client layers area x id) b.held) r → IsLeast (IsCovered p b client layers area) r
covers_least p b client layers area r h =
    least_same (λ id. AnyOf (λ x. IsCoveredPair p b.live client layers area x id) b.held) (IsCovered p b client layers area) r
    (λ id k. let o = covers_out p b.live client layers area b.held id k in record { item = o.3.0; item_is = o.3.1; touches = o.3.2; holder = o.0; held = o.1; other = o.2 })
    (λ id k. covers_in p b.live client layers area b.held id k.holder k.item k.held k.other k.item_is k.touches) h
