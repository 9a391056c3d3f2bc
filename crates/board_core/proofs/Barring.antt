-- The least boundary that bars a client, from what single items give.
use Rattle.std.proofs.Common.{◌≡◌, ℕ, ◌<◌, List, [], ◌∷◌, sym, subst, inl, inr}
use Rattle.std.specs.Prelude.{◌⊎◌, Option, None, Any}
use Rattle.board_items.specs.declared.items.Item.{Item}
use Rattle.board_items.specs.declared.items.Padstack.{Padstack}
use Rattle.board_items.specs.declared.requests.Add.{Add}
use Rattle.board_items.specs.Adds.{item_of_add}
use Rattle.board_items.specs.Shapes.{copper_of_item}
use Rattle.board_rules.specs.declared.design.Parts.{Parts}
use Rattle.number_slots.specs.Slots.{IsAt, IsThere}
use Rattle.number_slots.specs.Leasts.{IsLeast}
use Rattle.boundaries.specs.Boundaries.{Boundary, IsEntitled}
use Rattle.boundaries.specs.Touching.{IsForeign, TouchesBoundary}
use Rattle.board_core.specs.Boards.{Board}
use Rattle.board_core.specs.Bars.{lesser_of, IsBarredItem}
use Rattle.board_core.specs.Barrings.{TouchesAt, IsTouchedBy, IsBarring}
use Rattle.board_core.proofs.Leasts.{AnyOf, any_of, of_any, any_map, least_same, least_or}

-- ---- one item

-- the least boundary that the item touches, told of the boundaries of a board
pub item_least : (p : Parts) (b : Board) (client : ℕ) (item : Item) (fences : List (ℕ × Boundary)) (stacks : List Padstack) (r : Option ℕ) → fences ≡ b.fences → stacks ≡ p.stacks → ((n : ℕ) (f : Boundary) → IsAt fences n f → 0 < n) → IsLeast (IsForeign fences (copper_of_item stacks item) client 0) r
    → IsLeast (IsBarredItem p b client item) r
item_least p b client item fences stacks r same is within h =
    let told : IsLeast (IsForeign b.fences (copper_of_item p.stacks item) client 0) r = subst (λ (ss : List Padstack). IsLeast (IsForeign b.fences (copper_of_item ss item) client 0) r) is (subst (λ (fs : List (ℕ × Boundary)). IsLeast (IsForeign fs (copper_of_item stacks item) client 0) r) same h) in
    least_same (IsForeign b.fences (copper_of_item p.stacks item) client 0) (IsBarredItem p b client item) r
    (λ n k. record { fence = k.boundary; fence_is = k.boundary_is; foreign = k.foreign; touches = k.touched })
    (λ n k. record {
      past = within n k.fence (subst (λ (fs : List (ℕ × Boundary)). IsAt fs n k.fence) (sym same) k.fence_is);
      boundary = k.fence;
      boundary_is = k.fence_is;
      foreign = k.foreign;
      touched = k.touches;
    }) told

left_of : {A B : Type 0} (P : A → Type 0) (Q : B → Type 0) (xs : List A) → Any P xs ⊎ Any Q [] → AnyOf P xs
left_of P Q xs (inl h) = any_of P xs h
left_of P Q xs (inr h) = absurd (any_of Q [] h)

right_of : {A B : Type 0} (P : A → Type 0) (Q : B → Type 0) (xs : List B) → Any P [] ⊎ Any Q xs → AnyOf Q xs
right_of P Q xs (inl h) = absurd (any_of P [] h)
right_of P Q xs (inr h) = any_of Q xs h

only_one : {A : Type 0} (P : A → Type 0) (x : A) → AnyOf P (x ∷ []) → P x
only_one P x (inl h) = h
only_one P x (inr h) = absurd h

abbrev AddTouches : Parts → Boundary → Add → Type 0
AddTouches p f a = TouchesBoundary (copper_of_item p.stacks (item_of_add a)) f

touching_one : (p : Parts) (live : List (ℕ × Item)) (f : Boundary) (id : ℕ) → IsTouchedBy p live (id ∷ []) [] f → TouchesAt p live f id
touching_one p live f id h = only_one (TouchesAt p live f) id (left_of (TouchesAt p live f) (AddTouches p f) (id ∷ []) h)

touched_here : (p : Parts) (live : List (ℕ × Item)) (f : Boundary) (id : ℕ) → TouchesAt p live f id → IsTouchedBy p live (id ∷ []) [] f
touched_here p live f id t = inl (of_any (TouchesAt p live f) (id ∷ []) (inl t))

-- the live item of a number is barred as the number is
pub delete_least : (p : Parts) (b : Board) (client id : ℕ) (item : Item) (r : Option ℕ) → IsAt b.live id item → ((x : Item) → IsAt b.live id x → x ≡ item) → IsLeast (IsBarredItem p b client item) r → IsLeast (IsBarring p b client (id ∷ []) []) r
delete_least p b client id item r here only h =
    least_same (IsBarredItem p b client item) (IsBarring p b client (id ∷ []) []) r
    (λ n k. record { fence = k.fence; fence_is = k.fence_is; foreign = k.foreign; touched = touched_here p b.live k.fence id (record { item = item; item_is = here; touches = k.touches }) })
    (λ n k. let t = touching_one p b.live k.fence id k.touched in record {
      fence = k.fence;
      fence_is = k.fence_is;
      foreign = k.foreign;
      touches = subst (λ (x : Item). TouchesBoundary (copper_of_item p.stacks x) k.fence) (only t.item t.item_is) t.touches;
    }) h

-- nothing bars from what isn't live
pub delete_none : (p : Parts) (b : Board) (client id : ℕ) → (IsThere b.live id → ⊥) → IsLeast (IsBarring p b client (id ∷ []) []) None
delete_none p b client id none = λ n k. let t = touching_one p b.live k.fence id k.touched in none (t.item, t.item_is)

-- ---- several

ids_out : (p : Parts) (b : Board) (client n : ℕ) (ids : List ℕ) → AnyOf (λ (id : ℕ). IsBarring p b client (id ∷ []) [] n) ids → IsBarring p b client ids [] n
ids_out p b client n [] h = absurd h
ids_out p b client n (id ∷ rest) (inl h) = record {
  fence = h.fence;
  fence_is = h.fence_is;
  foreign = h.foreign;
  touched = inl (of_any (TouchesAt p b.live h.fence) (id ∷ rest) (inl (touching_one p b.live h.fence id h.touched)));
}
ids_out p b client n (id ∷ rest) (inr h) = let k = ids_out p b client n rest h in record {
  fence = k.fence;
  fence_is = k.fence_is;
  foreign = k.foreign;
  touched = inl (of_any (TouchesAt p b.live k.fence) (id ∷ rest) (inr (left_of (TouchesAt p b.live k.fence) (AddTouches p k.fence) rest k.touched)));
}

ids_in : (p : Parts) (b : Board) (client n : ℕ) (ids : List ℕ) → IsBarring p b client ids [] n → AnyOf (λ (id : ℕ). IsBarring p b client (id ∷ []) [] n) ids
ids_in p b client n ids h =
    any_map (TouchesAt p b.live h.fence) (λ (id : ℕ). IsBarring p b client (id ∷ []) [] n) ids
    (λ id t. record { fence = h.fence; fence_is = h.fence_is; foreign = h.foreign; touched = touched_here p b.live h.fence id t })
    (left_of (TouchesAt p b.live h.fence) (AddTouches p h.fence) ids h.touched)

-- what bars from one of the numbers bars from them
pub ids_least : (p : Parts) (b : Board) (client : ℕ) (ids : List ℕ) (r : Option ℕ) → IsLeast (λ n. AnyOf (λ (id : ℕ). IsBarring p b client (id ∷ []) [] n) ids) r → IsLeast (IsBarring p b client ids []) r
ids_least p b client ids r h = least_same (λ n. AnyOf (λ (id : ℕ). IsBarring p b client (id ∷ []) [] n) ids) (IsBarring p b client ids []) r (λ n k. ids_out p b client n ids k) (λ n k. ids_in p b client n ids k) h

adds_out : (p : Parts) (b : Board) (client n : ℕ) (adds : List Add) → AnyOf (λ (a : Add). IsBarredItem p b client (item_of_add a) n) adds → IsBarring p b client [] adds n
adds_out p b client n [] h = absurd h
adds_out p b client n (a ∷ rest) (inl h) = record { fence = h.fence; fence_is = h.fence_is; foreign = h.foreign; touched = inr (of_any (AddTouches p h.fence) (a ∷ rest) (inl h.touches)) }
adds_out p b client n (a ∷ rest) (inr h) = let k = adds_out p b client n rest h in record {
  fence = k.fence;
  fence_is = k.fence_is;
  foreign = k.foreign;
  touched = inr (of_any (AddTouches p k.fence) (a ∷ rest) (inr (right_of (TouchesAt p b.live k.fence) (AddTouches p k.fence) rest k.touched)));
}

adds_in : (p : Parts) (b : Board) (client n : ℕ) (adds : List Add) → IsBarring p b client [] adds n → AnyOf (λ (a : Add). IsBarredItem p b client (item_of_add a) n) adds
adds_in p b client n adds h =
    any_map (AddTouches p h.fence) (λ (a : Add). IsBarredItem p b client (item_of_add a) n) adds
    (λ a t. record { fence = h.fence; fence_is = h.fence_is; foreign = h.foreign; touches = t })
    (right_of (TouchesAt p b.live h.fence) (AddTouches p h.fence) adds h.touched)

-- what bars from the item of one of the adds bars from them
pub adds_least : (p : Parts) (b : Board) (client : ℕ) (adds : List Add) (r : Option ℕ) → IsLeast (λ n. AnyOf (λ (a : Add). IsBarredItem p b client (item_of_add a) n) adds) r → IsLeast (IsBarring p b client [] adds) r
adds_least p b client adds r h = least_same (λ n. AnyOf (λ (a : Add). IsBarredItem p b client (item_of_add a) n) adds) (IsBarring p b client [] adds) r (λ n k. adds_out p b client n adds k) (λ n k. adds_in p b client n adds k) h

both_out : (p : Parts) (b : Board) (client n : ℕ) (deletes : List ℕ) (adds : List Add) → IsBarring p b client deletes [] n ⊎ IsBarring p b client [] adds n → IsBarring p b client deletes adds n
both_out p b client n deletes adds (inl h) = record { fence = h.fence; fence_is = h.fence_is; foreign = h.foreign; touched = inl (of_any (TouchesAt p b.live h.fence) deletes (left_of (TouchesAt p b.live h.fence) (AddTouches p h.fence) deletes h.touched)) }
both_out p b client n deletes adds (inr h) = record { fence = h.fence; fence_is = h.fence_is; foreign = h.foreign; touched = inr (of_any (AddTouches p h.fence) adds (right_of (TouchesAt p b.live h.fence) (AddTouches p h.fence) adds h.touched)) }

both_in : (p : Parts) (b : Board) (client n : ℕ) (deletes : List ℕ) (adds : List Add) (f : Boundary) → IsAt b.fences n f → (IsEntitled f client → ⊥) → IsTouchedBy p b.live deletes adds f → IsBarring p b client deletes [] n ⊎ IsBarring p b client [] adds n
both_in p b client n deletes adds f here foreign (inl t) = inl (record { fence = f; fence_is = here; foreign = foreign; touched = inl t })
both_in p b client n deletes adds f here foreign (inr t) = inr (record { fence = f; fence_is = here; foreign = foreign; touched = inr t })

-- deletes and adds are barred by what bars from either
pub both_least : (p : Parts) (b : Board) (client : ℕ) (deletes : List ℕ) (adds : List Add) (r s : Option ℕ) → IsLeast (IsBarring p b client deletes []) r → IsLeast (IsBarring p b client [] adds) s → IsLeast (IsBarring p b client deletes adds) (lesser_of r s)
both_least p b client deletes adds r s f g =
    least_same (λ n. IsBarring p b client deletes [] n ⊎ IsBarring p b client [] adds n) (IsBarring p b client deletes adds) (lesser_of r s)
    (λ n h. both_out p b client n deletes adds h) (λ n h. both_in p b client n deletes adds h.fence h.fence_is h.foreign h.touched)
    (least_or (IsBarring p b client deletes []) (IsBarring p b client [] adds) r s f g)
