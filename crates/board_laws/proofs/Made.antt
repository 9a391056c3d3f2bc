-- What adds make, and that no two of them are too near, nor one of them and what stays.
use Rattle.std.proofs.Common.{◌≡◌, ℕ, ◌+◌, ◌<◌, ◌≤◌, List, [], ◌∷◌, length, refl, sym, subst, arith, inl, inr, Bool, true, false}
use Rattle.std.specs.Prelude.{◌⊎◌, Option, None, nat_le, Any}
use Rattle.board_items.specs.declared.items.Item.{Item}
use Rattle.board_items.specs.declared.requests.Add.{Add}
use Rattle.board_items.specs.Adds.{item_of_add, layer_of_add}
use Rattle.board_rules.specs.declared.design.Parts.{Parts}
use Rattle.board_rules.specs.Needs.{KeepsNeed}
use Rattle.board_rules.specs.Reasons.{IsNearReason, IsOwnReason}
use Rattle.number_slots.specs.Slots.{is_among, IsAt}
use Rattle.number_slots.proofs.ByNumber.{at_either}
use Rattle.board_core.specs.Boards.{made_of, made_from}
use Rattle.board_core.specs.Clean.{IsCleanBoard}
use Rattle.board_core.specs.Edits.{IsClashReason}
use Rattle.board_laws.proofs.Lists.{any_first, any_later}
use Rattle.board_core.proofs.Keeping.{keeps_need}
use Rattle.board_laws.proofs.Refusals.{then_none, first_none}

one_made : (n : ℕ) (add : Add) (test : Bool) (m : ℕ) (x : Item) → nat_le (layer_of_add add) 255 ≡ test → IsAt (made_of n add) m x → (n ≡ m) × (item_of_add add ≡ x)
one_made n add true m x e h = elim (rw e at h) [ inl f ↦ f | inr f ↦ absurd f ]
one_made n add false m x e h = absurd (rw e at h)

-- what is made is the first add's, under its number, or one of the others'
either_made : (n : ℕ) (add : Add) (rest : List Add) (m : ℕ) (x : Item) → IsAt (made_from n (add ∷ rest)) m x → ((n ≡ m) × (item_of_add add ≡ x)) ⊎ IsAt (made_from (n + 1) rest) m x
either_made n add rest m x h = elim (at_either (made_of n add) (made_from (n + 1) rest) m x h) [ inl f ↦ inl (one_made n add (nat_le (layer_of_add add) 255) m x refl f) | inr f ↦ inr f ]

-- what is made has the next numbers
pub made_at_least : (n : ℕ) (adds : List Add) (m : ℕ) (x : Item) → IsAt (made_from n adds) m x → n ≤ m
made_at_least n [] m x h = absurd h
made_at_least n (add ∷ rest) m x h = elim (either_made n add rest m x h) [ inl f ↦ omega (arith, f.0) | inr f ↦ omega (arith, made_at_least (n + 1) rest m x f) ]

-- and below the number behind them
pub made_below : (n : ℕ) (adds : List Add) (m : ℕ) (x : Item) → IsAt (made_from n adds) m x → m < n + length adds
made_below n [] m x h = absurd h
made_below n (add ∷ rest) m x h = elim (either_made n add rest m x h) [ inl f ↦ omega (arith, f.0) | inr f ↦ omega (arith, made_below (n + 1) rest m x f) ]

-- what is made is the item of an add
pub made_by : (P : Item → Type 0) (n : ℕ) (adds : List Add) (m : ℕ) (x : Item) → IsAt (made_from n adds) m x → P x → Any (λ (a : Add). P (item_of_add a)) adds
made_by P n [] m x h is = absurd h
made_by P n (add ∷ rest) m x h is = elim (either_made n add rest m x h) [
  | inl f ↦ any_first (λ (a : Add). P (item_of_add a)) add rest (subst P (sym f.1) is)
  | inr f ↦ any_later (λ (a : Add). P (item_of_add a)) add rest (made_by P (n + 1) rest m x f is)
]

-- ---- needs

near_none : (p : Parts) (rules : List (Option ℕ)) (a : ℕ) (item : Item) (b n : ℕ) (adds : List Add) (m : ℕ) (x : Item) → IsNearReason p rules a item b adds None → IsAt (made_from n adds) m x → KeepsNeed p rules item x
near_none p rules a item b n [] m x none h = absurd h
near_none p rules a item b n (add ∷ rest) m x none h =
    let parts = first_none none in
    elim (either_made n add rest m x h) [
      | inl f ↦ subst (λ (y : Item). KeepsNeed p rules item y) f.1 (keeps_need p rules item (item_of_add add) parts.0)
      | inr f ↦ near_none p rules a item (b + 1) (n + 1) rest m x parts.1 f
    ]

own_pair : (p : Parts) (rules : List (Option ℕ)) (a n : ℕ) (add : Add) (rest : List Add) (c d : ℕ) (x y : Item) → c < d → IsNearReason p rules a (item_of_add add) (a + 1) rest None → IsCleanBoard p rules (made_from (n + 1) rest)
    → ((n ≡ c) × (item_of_add add ≡ x)) ⊎ IsAt (made_from (n + 1) rest) c x → ((n ≡ d) × (item_of_add add ≡ y)) ⊎ IsAt (made_from (n + 1) rest) d y → KeepsNeed p rules x y
own_pair p rules a n add rest c d x y lt near clean (inl f) (inl g) = absurd (omega (arith, f.0, g.0))
own_pair p rules a n add rest c d x y lt near clean (inl f) (inr g) = subst (λ (z : Item). KeepsNeed p rules z y) f.1 (near_none p rules a (item_of_add add) (a + 1) (n + 1) rest d y near g)
own_pair p rules a n add rest c d x y lt near clean (inr f) (inl g) = let le = made_at_least (n + 1) rest c x f in absurd (omega (arith, g.0))
own_pair p rules a n add rest c d x y lt near clean (inr f) (inr g) = clean c d x y lt f g

-- no two of the adds are too near
pub own_none : (p : Parts) (rules : List (Option ℕ)) (a n : ℕ) (adds : List Add) → IsOwnReason p rules a adds None → IsCleanBoard p rules (made_from n adds)
own_none p rules a n [] none = λ c d x y lt f g. absurd f
own_none p rules a n (add ∷ rest) none =
    let parts = then_none none in
    λ c d x y lt f g. own_pair p rules a n add rest c d x y lt parts.0 (own_none p rules (a + 1) (n + 1) rest parts.1) (either_made n add rest c x f) (either_made n add rest d y g)

-- no add is too near to a live item that isn't deleted
pub clash_none : (p : Parts) (rules : List (Option ℕ)) (live : List (ℕ × Item)) (deletes : List ℕ) (a n : ℕ) (adds : List Add) (c d : ℕ) (x y : Item) → IsClashReason p rules live deletes a adds None → IsAt live c x → is_among c deletes ≡ false → IsAt (made_from n adds) d y → KeepsNeed p rules y x
clash_none p rules live deletes a n [] c d x y none f stays g = absurd g
clash_none p rules live deletes a n (add ∷ rest) c d x y none f stays g =
    let parts = then_none none in
    elim (either_made n add rest d y g) [
      | inl h ↦ subst (λ (z : Item). KeepsNeed p rules z x) h.1 (keeps_need p rules (item_of_add add) x (λ near. parts.0 c (record { other = x; other_is = f; near = near; stays = stays })))
      | inr h ↦ clash_none p rules live deletes (a + 1) (n + 1) rest c d x y parts.1 f stays h
    ]
