-- What an act of a client leaves in a boundary in which the client isn't entitled.
use Rattle.std.proofs.Common.{◌≡◌, ℕ, ◌+◌, List, [], ◌∷◌, ◌++◌, refl, sym, ap, ◌∙◌, subst, inl, inr, Bool, true, false}
use Rattle.std.specs.Prelude.{◌==◌, not, ◌&&◌, if◌then◌else◌, Option}
use Rattle.std.proofs.lemmas.Bool.{ne_eqb, not_from_false}
use Rattle.board_items.specs.declared.items.Item.{Item}
use Rattle.board_items.specs.declared.requests.Add.{Add}
use Rattle.board_items.specs.declared.requests.Request.TheVariants as requests
use Rattle.board_items.specs.declared.history.Act.TheVariants as acts
use Rattle.board_items.specs.Shapes.{copper_of_item}
use Rattle.board_rules.specs.declared.design.Parts.{Parts}
use Rattle.number_slots.specs.Slots.{is_among, without, IsAt}
use Rattle.number_slots.proofs.ByNumber.{at_front, at_either, by_bool}
use Rattle.boundaries.specs.Boundaries.{Boundary, IsEntitled, IsOwner}
use Rattle.boundaries.specs.Touching.{TouchesBoundary}
use Rattle.board_core.specs.Boards.{Board, made_from, is_numbered, reserved, released_by, after}
use Rattle.board_core.specs.Barrings.{TouchesAt}
use Rattle.board_core.specs.Shields.{IsSameWithin}
use Rattle.board_laws.proofs.Numbers.{within_filter, left_by_filter}
use Rattle.board_laws.proofs.Lists.{any_first, any_among}
use Rattle.board_laws.proofs.Made.{made_by}
use Rattle.board_laws.proofs.Refusals.{IsUnbarred}
use Rattle.board_laws.proofs.Order.{IsOrdered, reserved_is}
use Rattle.board_laws.proofs.Guards.{IsGuardedBoard}

-- ---- an edit

-- a live item that touches a foreign boundary isn't deleted
not_deleted : (p : Parts) (b : Board) (client : ℕ) (deletes : List ℕ) (adds : List Add) (n id : ℕ) (f : Boundary) → IsUnbarred p b client deletes adds → IsAt b.fences n f → (IsEntitled f client → ⊥) → TouchesAt p b.live f id
    → not (is_among id deletes) ≡ true
not_deleted p b client deletes adds n id f none at_n foreign touches = by_bool (is_among id deletes) (not (is_among id deletes) ≡ true)
    (λ among. absurd (none n (record { fence = f; fence_is = at_n; foreign = foreign; touched = inl (any_among (TouchesAt p b.live f) deletes id among touches) })))
    (λ out. not_from_false (is_among id deletes) out)

-- nothing that is made touches a foreign boundary
not_made : (p : Parts) (b : Board) (client : ℕ) (deletes : List ℕ) (adds : List Add) (n id : ℕ) (f : Boundary) (x : Item) → IsUnbarred p b client deletes adds → IsAt b.fences n f → (IsEntitled f client → ⊥)
    → TouchesBoundary (copper_of_item p.stacks x) f → IsAt (made_from b.next_id adds) id x → ⊥
not_made p b client deletes adds n id f x none at_n foreign touches h =
    none n (record { fence = f; fence_is = at_n; foreign = foreign; touched = inr (made_by (λ (y : Item). TouchesBoundary (copper_of_item p.stacks y) f) b.next_id adds id x h touches) })

-- an edit
pub edit_same : (p : Parts) (b : Board) (client : ℕ) (deletes : List ℕ) (adds : List Add) (n : ℕ) (f : Boundary) → IsUnbarred p b client deletes adds → IsAt b.fences n f → (IsEntitled f client → ⊥)
    → IsSameWithin p n f b (after b client (acts.Ask (requests.Edit deletes adds)))
edit_same p b client deletes adds n f none at_n foreign = record {
  fence = at_n;
  items = λ id x touches. (
    λ h. at_front (without deletes b.live) (made_from b.next_id adds) id x (left_by_filter (λ y. not (is_among y.0 deletes)) b.live id x (not_deleted p b client deletes adds n id f none at_n foreign (record { item = x; item_is = h; touches = touches })) h),
    λ h. elim (at_either (without deletes b.live) (made_from b.next_id adds) id x h) [
      | inl k ↦ (within_filter (λ y. not (is_among y.0 deletes)) b.live id x k).0
      | inr k ↦ absurd (not_made p b client deletes adds n id f x none at_n foreign touches k)
    ],
  );
  held = λ id holder touches. (
    λ h. left_by_filter (λ y. not (is_among y.0 deletes)) b.held id holder (not_deleted p b client deletes adds n id f none at_n foreign touches) h,
    λ h. (within_filter (λ y. not (is_among y.0 deletes)) b.held id holder h).0,
  );
}

-- ---- who holds what

reserved_before : (p : Parts) (b : Board) (client id n : ℕ) (f : Boundary) → IsUnbarred p b client (id ∷ []) [] → IsAt b.fences n f → (IsEntitled f client → ⊥) → (m holder : ℕ) → TouchesAt p b.live f m → IsAt (reserved b.live b.held id client) m holder → IsAt b.held m holder
reserved_before p b client id n f none at_n foreign m holder touches h = elim (reserved_is b.live b.held id client m holder h) [
  | inl k ↦ k
  | inr k ↦ absurd (none n (record { fence = f; fence_is = at_n; foreign = foreign; touched = inl (any_first (TouchesAt p b.live f) id [] (subst (λ (j : ℕ). TouchesAt p b.live f j) (sym k.0) touches)) }))
]

one_stays : (test : Bool) (held more : List (ℕ × ℕ)) (m holder : ℕ) → IsAt held m holder → IsAt (if test then held ++ more else held) m holder
one_stays true held more m holder h = at_front held more m holder h
one_stays false held more m holder h = h

-- what is held is held after a reserve
reserved_stays : (live : List (ℕ × Item)) (held : List (ℕ × ℕ)) (id client m holder : ℕ) → IsAt held m holder → IsAt (reserved live held id client) m holder
reserved_stays live held id client m holder h = one_stays (is_numbered id live && not (is_numbered id held)) held ((id, client) ∷ []) m holder h

-- the reserved item is none that touches a foreign boundary
pub reserve_same : (p : Parts) (b : Board) (client id n : ℕ) (f : Boundary) → IsUnbarred p b client (id ∷ []) [] → IsAt b.fences n f → (IsEntitled f client → ⊥) → IsSameWithin p n f b (after b client (acts.Ask (requests.Reserve (record { 0 = id }))))
reserve_same p b client id n f none at_n foreign = record {
  fence = at_n;
  items = λ m x touches. (λ h. h, λ h. h);
  held = λ m holder touches. (reserved_stays b.live b.held id client m holder, reserved_before p b client id n f none at_n foreign m holder touches);
}

not_both : (a b : Bool) → b ≡ false → not (a && b) ≡ true
not_both true b e = rw e refl
not_both false b e = refl

-- a holder of an item that touches a foreign boundary is another client
other_holder : (p : Parts) (b : Board) (client n id holder : ℕ) (f : Boundary) → IsGuardedBoard p b → IsAt b.fences n f → (IsEntitled f client → ⊥) → TouchesAt p b.live f id → IsAt b.held id holder → (holder == client) ≡ false
other_holder p b client n id holder f is at_n foreign touches held =
    ne_eqb holder client (λ same. is.guarded id holder n f held at_n touches (λ e. foreign (subst (λ (c : ℕ). IsEntitled f c) same e)))

-- a release: the holder of what touches a foreign boundary is another client
pub release_same : (p : Parts) (b : Board) (client id n : ℕ) (f : Boundary) → IsGuardedBoard p b → IsAt b.fences n f → (IsEntitled f client → ⊥) → IsSameWithin p n f b (record b { held = released_by id client b.held; count = b.count + 1 })
release_same p b client id n f is at_n foreign = record {
  fence = at_n;
  items = λ m x touches. (λ h. h, λ h. h);
  held = λ m holder touches. (
    λ h. left_by_filter (λ x. not ((x.0 == id) && (x.1 == client))) b.held m holder (not_both (m == id) (holder == client) (other_holder p b client n m holder f is at_n foreign touches h)) h,
    λ h. (within_filter (λ x. not ((x.0 == id) && (x.1 == client))) b.held m holder h).0,
  );
}

-- a leave, by the same
pub leave_same : (p : Parts) (b : Board) (client n : ℕ) (f : Boundary) → IsGuardedBoard p b → IsAt b.fences n f → (IsEntitled f client → ⊥) → IsSameWithin p n f b (after b client acts.Leave)
leave_same p b client n f is at_n foreign = record {
  fence = at_n;
  items = λ m x touches. (λ h. h, λ h. h);
  held = λ m holder touches. (
    λ h. left_by_filter (λ x. not (x.1 == client)) b.held m holder (not_from_false (holder == client) (other_holder p b client n m holder f is at_n foreign touches h)) h,
    λ h. (within_filter (λ x. not (x.1 == client)) b.held m holder h).0,
  );
}

-- ---- boundaries

-- only a boundary changes
pub fence_same : (p : Parts) (b : Board) (n : ℕ) (f : Boundary) (fences : List (ℕ × Boundary)) (last : ℕ) → IsAt fences n f → IsSameWithin p n f b (record b { fences = fences; last = last; count = b.count + 1 })
fence_same p b n f fences last h = record { fence = h; items = λ m x touches. (λ k. k, λ k. k); held = λ m holder touches. (λ k. k, λ k. k) }

-- only the rules change
pub rule_same : (p : Parts) (b : Board) (n : ℕ) (f : Boundary) (rules : List (Option ℕ)) → IsAt b.fences n f → IsSameWithin p n f b (record b { rules = rules; count = b.count + 1 })
rule_same p b n f rules h = record { fence = h; items = λ m x touches. (λ k. k, λ k. k); held = λ m holder touches. (λ k. k, λ k. k) }

-- a boundary that the client owns is none in which it isn't entitled
pub not_owned : (b : Board) (client m n : ℕ) (f : Boundary) → IsOrdered b → ((IsOwner b.fences m client → ⊥) → ⊥) → IsAt b.fences n f → (IsEntitled f client → ⊥) → n ≡ m → ⊥
not_owned b client m n f order owned at_n foreign same = owned (λ o.
    let at_m : IsAt b.fences m f = subst (λ (k : ℕ). IsAt b.fences k f) same at_n in
    foreign (inl (ap (λ (g : Boundary). g.owner) (order.fences.once m f o.boundary at_m o.boundary_is) ∙ o.owner)))

-- another boundary than the one that goes
pub unfence_at : (b : Board) (m n : ℕ) (f : Boundary) → (n ≡ m → ⊥) → IsAt b.fences n f → IsAt (without (m ∷ []) b.fences) n f
unfence_at b m n f differs at_n =
    let e : (m == n) ≡ false = ne_eqb m n (λ same. differs (sym same)) in
    left_by_filter (λ x. not (is_among x.0 (m ∷ []))) b.fences n f (rw e refl) at_n
