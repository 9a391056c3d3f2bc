-- What the tests of live items say that an index finds near, and what they take.
use Rattle.std.proofs.Common.{◌≡◌, ℕ, zero, suc, ◌+◌, ◌-◌, ◌<◌, ◌≤◌, List, [], ◌∷◌, Bool, true, false, length, get_or, arith, refl, sym, subst, ◌∙◌, inl, inr}
use Rattle.std.specs.Prelude.{◌↔◌, IsTrue, not, Option, Any, nat_le, nat_lt, ◌&&◌, if◌then◌else◌}
use Rattle.std.specs.List.{Contains, list_any}
use Rattle.std.specs.List.Sorted.{IsStrictlyIncreasing}
use Rattle.std.proofs.lemmas.Bool.{not_from_false, not-true, false_from_ne_true, lt-leb, le-ltb}
use Rattle.std.proofs.lemmas.List.{get_or_default}
use Rattle.std.proofs.lemmas.List.Elements.{Contains-append_cases}
use Rattle.std.proofs.lemmas.List.Folds.{list_any-from_Any}
use Rattle.std.proofs.lemmas.List.Kept.{AllPairs-from_increasing}
use Rattle.seg_geometry.specs.declared.near.Filed.{Filed}
use Rattle.area_geometry.specs.Copper.{Copper}
use Rattle.area_geometry.specs.Boxes.{are_boxes_near, AreBoxesNear}
use Rattle.area_geometry.proofs.Reaches.{near_told}
use Rattle.board_items.specs.declared.items.Item.{Item}
use Rattle.board_items.specs.declared.items.Padstack.{Padstack}
use Rattle.board_items.specs.Shapes.{copper_of_item}
use Rattle.board_rules.specs.declared.design.Parts.{Parts}
use Rattle.board_rules.specs.Costs.{pair_most}
use Rattle.board_rules.specs.Needs.{KeepsNeed}
use Rattle.number_slots.specs.Slots.{IsAt, IsThere, IsRisingFrom, is_among}
use Rattle.number_slots.specs.Sums.{sum_of, sum_between}
use Rattle.number_slots.proofs.ByNumber.{by_bool, by_lt, at_once}
use Rattle.number_slots.proofs.Sums.{sum_on, sum_most}
use Rattle.board_core.specs.Edits.{IsNear}
use Rattle.check_core.specs.Filings.{IsFiledBy, AreFiledUnder, AreFiled, IsFoundBy}
use Rattle.check_core.specs.NearCosts.{are_items_near, near_pair_most}

-- ---- one item

-- a live item that isn't deleted is near where it doesn't keep its need
pub live_told : (p : Parts) (rules : List (Option ℕ)) (live : List (ℕ × Item)) (deletes : List ℕ) (item other : Item) (id : ℕ) (keeps : Bool) → is_among id deletes ≡ false → IsAt live id other → ((x : Item) → IsAt live id x → x ≡ other)
    → IsTrue keeps ↔ KeepsNeed p rules item other → IsTrue (not keeps) ↔ IsNear p rules live deletes item id
live_told p rules live deletes item other id keeps stays at only told = (
  λ t. record { other = other; other_is = at; near = λ k. let yes_ : keeps ≡ true = told.1 k in let no_ : keeps ≡ false = not-true keeps t in absurd cc; stays = stays },
  λ n. not_from_false keeps (false_from_ne_true keeps (λ t. n.near (subst (KeepsNeed p rules item) (sym (only n.other n.other_is)) (told.0 t)))),
)

pub gone_told : (p : Parts) (rules : List (Option ℕ)) (live : List (ℕ × Item)) (deletes : List ℕ) (item : Item) (id : ℕ) → is_among id deletes ≡ true → IsTrue false ↔ IsNear p rules live deletes item id
gone_told p rules live deletes item id gone = (λ t. absurd cc, λ n. let stays : is_among id deletes ≡ false = n.stays in absurd cc)

pub none_told : (p : Parts) (rules : List (Option ℕ)) (live : List (ℕ × Item)) (deletes : List ℕ) (item : Item) (id : ℕ) → (IsThere live id → ⊥) → IsTrue false ↔ IsNear p rules live deletes item id
none_told p rules live deletes item id none = (λ t. absurd cc, λ n. absurd (none (n.other, n.other_is)))

-- ---- what is found

-- the shape by which something is filed
record IsFiledOf (stacks : List Padstack) (live : List (ℕ × Item)) (f : Filed) : Type 0 where
  pub item : Item
  pub item_is : IsAt live f.id item
  pub shape : Copper
  pub shape_is : Contains (copper_of_item stacks item) shape
  pub by_box : IsFiledBy f.id shape f

record IsOfShape (id : ℕ) (shapes : List Copper) (f : Filed) : Type 0 where
  pub shape : Copper
  pub shape_is : Contains shapes shape
  pub by_box : IsFiledBy id shape f

of_shape : (id : ℕ) (shapes : List Copper) (part : List Filed) (f : Filed) → AreFiledUnder id shapes part → Contains part f → IsOfShape id shapes f
of_shape id [] [] f h c = absurd (omega (arith, c.1))
of_shape id [] (g ∷ gs) f h c = absurd h
of_shape id (s ∷ ss) [] f h c = absurd h
of_shape id (s ∷ ss) (g ∷ gs) f h (zero, lt, at) = record { shape = s; shape_is = (0, omega arith, refl); by_box = subst (IsFiledBy id s) at h.0 }
of_shape id (s ∷ ss) (g ∷ gs) f h (suc k, lt, at) =
    let more = of_shape id ss gs f h.1 (k, omega (arith, lt), at) in
    record { shape = more.shape; shape_is = (suc more.shape_is.0, omega (arith, more.shape_is.1), more.shape_is.2); by_box = more.by_box }

filed_of : (stacks : List Padstack) (live : List (ℕ × Item)) (filed : List Filed) (f : Filed) → AreFiled stacks live filed → Contains filed f → IsFiledOf stacks live f
filed_of stacks [] filed f e c = let none = subst (λ (l : List Filed). Contains l f) e c in absurd (omega (arith, none.1))
filed_of stacks (l ∷ rest) filed f (front, back, e, r, j) c = elim (Contains-append_cases front back f (subst (λ (fs : List Filed). Contains fs f) e c)) [
  | inl a ↦ (let k = of_shape l.0 (copper_of_item stacks l.1) front f r a in record {
    item = l.1;
    item_is = inl (sym k.by_box.of, refl);
    shape = k.shape;
    shape_is = k.shape_is;
    by_box = subst (λ (n : ℕ). IsFiledBy n k.shape f) (sym k.by_box.of) k.by_box;
  })
  | inr b ↦ (let k = filed_of stacks rest back f j b in record { item = k.item; item_is = inr k.item_is; shape = k.shape; shape_is = k.shape_is; by_box = k.by_box })
]

boxes_near : (by : ℕ) (filed : List Filed) (id : ℕ) (s t : Copper) (h : IsFoundBy by filed id s) → IsFiledBy h.file.id t h.file → AreBoxesNear by s t
boxes_near by filed id s t h k = record {
  same_layer = sym h.near.on_layer ∙ k.on_layer;
  box = h.box;
  other = h.file.rect;
  box_is = h.box_is;
  other_is = k.box;
  meet = record { at = h.near.meets.at; in_first = h.near.meets.in_second; in_second = h.near.meets.in_first };
}

-- a live item whose number is found is near by its boxes
pub found_is_near : (stacks : List Padstack) (by n : ℕ) (item y : Item) (live : List (ℕ × Item)) (filed : List Filed) (id : ℕ) → IsRisingFrom n live → AreFiled stacks live filed → Any (IsFoundBy by filed id) (copper_of_item stacks item) → IsAt live id y → are_items_near stacks by item y ≡ true
found_is_near stacks by n item y live filed id rises files a at =
    let h : IsFoundBy by filed id a.1 = a.4 in
    let k = filed_of stacks live filed h.file files h.file_is in
    let here : IsAt live id k.item = subst (λ (m : ℕ). IsAt live m k.item) h.of k.item_is in
    let same : k.item ≡ y = at_once n live id k.item y rises here at in
    let near : are_boxes_near by a.1 k.shape ≡ true = (near_told by a.1 k.shape).0 (boxes_near by filed id a.1 k.shape h k.by_box) in
    let listed : Contains (copper_of_item stacks y) k.shape = subst (λ (i : Item). Contains (copper_of_item stacks i) k.shape) same k.shape_is in
    list_any-from_Any (λ s. list_any (are_boxes_near by s) (copper_of_item stacks y)) (copper_of_item stacks item)
    (a.0, a.1, a.2, a.3, list_any-from_Any (are_boxes_near by a.1) (copper_of_item stacks y) (listed.0, k.shape, listed.1, listed.2, near))

-- ---- what the tests take

pub tested_most : (p : Parts) (by : ℕ) (item y : Item) → are_items_near p.stacks by item y ≡ true → near_pair_most p by item y ≡ pair_most p item y
unfolding near_pair_most
tested_most p by item y e = rw e refl

same_term : {T : Type 0} (w v : T → ℕ) (m : ℕ) (x : ℕ × T) → (x.0 ≡ m → w x.1 ≡ v x.1) → (if nat_le m x.0 && nat_lt x.0 (m + 1) then w x.1 else 0) ≡ (if nat_le m x.0 && nat_lt x.0 (m + 1) then v x.1 else 0)
same_term w v m x h =
    by_lt x.0 m ((if nat_le m x.0 && nat_lt x.0 (m + 1) then w x.1 else 0) ≡ (if nat_le m x.0 && nat_lt x.0 (m + 1) then v x.1 else 0))
    (λ low. let e : nat_le m x.0 ≡ false = lt-leb m x.0 low in rw e refl)
    (λ from. by_lt m x.0 ((if nat_le m x.0 && nat_lt x.0 (m + 1) then w x.1 else 0) ≡ (if nat_le m x.0 && nat_lt x.0 (m + 1) then v x.1 else 0))
    (λ high. let e : nat_lt x.0 (m + 1) ≡ false = le-ltb x.0 (m + 1) (omega (arith, high)) in by_bool (nat_le m x.0) _ (λ t. rw (t, e) refl) (λ f. rw f refl))
    (λ here. let same : w x.1 ≡ v x.1 = h (omega (arith, from, here)) in rw same refl))

-- the sums at a number are the same where what stands there is counted the same
pub same_at : {T : Type 0} (w v : T → ℕ) (m : ℕ) (xs : List (ℕ × T)) → ((x : T) → IsAt xs m x → w x ≡ v x) → sum_between w m (m + 1) xs ≡ sum_between v m (m + 1) xs
same_at w v m [] h = refl
same_at w v m (x ∷ xs) h = let one = same_term w v m x (λ e. h x.1 (inl (e, refl))) in let more = same_at w v m xs (λ y at. h y (inr at)) in omega (arith, one, more)

-- a sum up to a greater number is no less
sum_up : {T : Type 0} (w : T → ℕ) (k n d : ℕ) (xs : List (ℕ × T)) → k ≤ n → sum_between w k n xs ≤ sum_between w k (n + d) xs
sum_up w k n zero xs le = let e : n + 0 ≡ n = omega arith in rw e (omega arith)
sum_up w k n (suc d) xs le =
    let more = sum_up w k n d xs le in
    let next = sum_on w k (n + d) xs (omega (arith, le)) in
    let e : n + suc d ≡ n + d + 1 = omega arith in rw e (omega (arith, more, next))

sum_to : {T : Type 0} (w : T → ℕ) (k n m : ℕ) (xs : List (ℕ × T)) → k ≤ n → n ≤ m → sum_between w k n xs ≤ sum_between w k m xs
sum_to w k n m xs le to = let e : n + (m - n) ≡ m = omega (arith, to) in subst (λ (j : ℕ). sum_between w k n xs ≤ sum_between w k j xs) e (sum_up w k n (m - n) xs le)

-- numbers from a bound on are left, and what was taken so far is no more than what stands from k on and below the bound
pub record IsBounded {T : Type 0} (w : T → ℕ) (k : ℕ) (live : List (ℕ × T)) (ids : List ℕ) (i before now : ℕ) : Type 0 where
  pub bound : ℕ
  pub from : k ≤ bound
  pub ahead : (j d : ℕ) → i ≤ j → j < length ids → bound ≤ get_or ids j d
  pub taken : now ≤ before + sum_between w k bound live

pub bounded_none : {T : Type 0} (w : T → ℕ) (live : List (ℕ × T)) (ids : List ℕ) (before : ℕ) → IsBounded w 0 live ids 0 before before
bounded_none w live ids before = record { bound = 0; from = omega arith; ahead = λ j d le lt. omega arith; taken = omega arith }

-- one more is tested
pub bounded_more : {T : Type 0} (w : T → ℕ) (k : ℕ) (live : List (ℕ × T)) (ids : List ℕ) (i d before now next : ℕ) → IsStrictlyIncreasing ids → i < length ids → IsBounded w k live ids i before now
    → next ≤ now + sum_between w (get_or ids i d) (get_or ids i d + 1) live → IsBounded w k live ids (i + 1) before next
bounded_more w k live ids i d before now next rising lt b spent =
    let id = get_or ids i d in
    let past = b.ahead i d (omega arith) lt in
    let up = sum_to w k b.bound id live b.from past in
    let on = sum_on w k id live (omega (arith, b.from, past)) in record {
      bound = id + 1;
      from = omega (arith, b.from, past);
      ahead = λ j e le within. let above : get_or ids i e < get_or ids j e = AllPairs-from_increasing ids rising i j e (omega (arith, le)) within in let same : get_or ids i e ≡ id = get_or_default ids i e d lt in omega (arith, above, same);
      taken = omega (arith, b.taken, spent, up, on);
    }

-- one more is passed over
pub bounded_on : {T : Type 0} (w : T → ℕ) (k : ℕ) (live : List (ℕ × T)) (ids : List ℕ) (i before now : ℕ) → IsBounded w k live ids i before now → IsBounded w k live ids (i + 1) before now
bounded_on w k live ids i before now b = record { bound = b.bound; from = b.from; ahead = λ j d le lt. b.ahead j d (omega (arith, le)) lt; taken = b.taken }

-- in all no more than what stands there
pub bounded_all : {T : Type 0} (w : T → ℕ) (k : ℕ) (live : List (ℕ × T)) (ids : List ℕ) (i before now : ℕ) → IsBounded w k live ids i before now → now ≤ before + sum_of w live
bounded_all w k live ids i before now b = let most = sum_most w k b.bound live in omega (arith, b.taken, most)

-- a test of a number that is found takes what near items take
pub near_taken : (p : Parts) (by n : ℕ) (item : Item) (live : List (ℕ × Item)) (filed : List Filed) (id : ℕ) → IsRisingFrom n live → AreFiled p.stacks live filed → Any (IsFoundBy by filed id) (copper_of_item p.stacks item)
    → sum_between (pair_most p item) id (id + 1) live ≡ sum_between (near_pair_most p by item) id (id + 1) live
near_taken p by n item live filed id rises files a = same_at (pair_most p item) (near_pair_most p by item) id live (λ y at. sym (tested_most p by item y (found_is_near p.stacks by n item y live filed id rises files a at)))
