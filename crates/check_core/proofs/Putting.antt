-- The list of live items that an item is too near to, one number that was found after another.
use Rattle.std.proofs.Common.{◌≡◌, ℕ, ◌+◌, ◌<◌, ◌≤◌, List, [], ◌∷◌, ◌++◌, length, get_or, take, arith, sym, subst, inl, inr}
use Rattle.std.specs.Prelude.{◌⊎◌, ◌↔◌, Option}
use Rattle.std.specs.List.{Contains}
use Rattle.std.specs.List.Sorted.{IsStrictlyIncreasing}
use Rattle.std.proofs.lemmas.List.{take_more, take_all, get_or_default}
use Rattle.std.proofs.lemmas.List.Elements.{Contains-push_cases, Contains-append_left, Contains-push}
use Rattle.std.proofs.lemmas.List.Kept.{AllPairs-from_increasing}
use Rattle.seg_geometry.specs.declared.near.Filed.{Filed}
use Rattle.board_items.specs.declared.items.Item.{Item}
use Rattle.board_items.specs.Shapes.{copper_of_item}
use Rattle.board_rules.specs.declared.design.Parts.{Parts}
use Rattle.board_rules.specs.Needs.{largest_of}
use Rattle.number_slots.specs.Slots.{is_among}
use Rattle.number_slots.proofs.ByNumber.{by_bool}
use Rattle.boundaries.proofs.Walked.{rising_pushed}
use Rattle.board_core.specs.Edits.{IsNear}
use Rattle.check_core.specs.Filings.{AreFiled, FindsAll}
use Rattle.check_core.specs.Nearby.{PutsWhere}
use Rattle.check_core.proofs.Growth.{of_among, among_of}
use Rattle.check_core.proofs.Missing.{kept_where_missing}

-- ---- the list of those that are near

-- of the first of some numbers exactly those of which S holds, rising, and below those that are left
pub record ArePut (S : ℕ → Type 0) (ids : List ℕ) (i : ℕ) (put : List ℕ) : Type 0 where
  pub rising : IsStrictlyIncreasing put
  pub exact : (n : ℕ) → Contains put n ↔ (Contains (take i ids) n × S n)
  pub below : (n j d : ℕ) → Contains put n → i ≤ j → j < length ids → n < get_or ids j d

pub put_none : (S : ℕ → Type 0) (ids put : List ℕ) → put ≡ [] → ArePut S ids 0 put
put_none S ids put e = subst (ArePut S ids 0) (sym e) (record {
  rising = λ k within. absurd (omega (arith, within));
  exact = λ n. (λ c. absurd (omega (arith, c.1)), λ h. absurd (omega (arith, h.0.1)));
  below = λ n j d c le lt. absurd (omega (arith, c.1));
})

-- a number of a longer front
front_cases : (ids : List ℕ) (i d n : ℕ) → i < length ids → Contains (take (i + 1) ids) n → Contains (take i ids) n ⊎ (get_or ids i d ≡ n)
front_cases ids i d n lt c = Contains-push_cases (take i ids) (get_or ids i d) n (subst (λ (l : List ℕ). Contains l n) (take_more ids i d lt) c)

front_left : (ids : List ℕ) (i d n : ℕ) → i < length ids → Contains (take i ids) n → Contains (take (i + 1) ids) n
front_left ids i d n lt c = subst (λ (l : List ℕ). Contains l n) (sym (take_more ids i d lt)) (Contains-append_left (take i ids) (get_or ids i d ∷ []) n c)

front_last : (ids : List ℕ) (i d : ℕ) → i < length ids → Contains (take (i + 1) ids) (get_or ids i d)
front_last ids i d lt = subst (λ (l : List ℕ). Contains l (get_or ids i d)) (sym (take_more ids i d lt)) (Contains-push (take i ids) (get_or ids i d))

ahead_of : (ids : List ℕ) (i d j e : ℕ) → IsStrictlyIncreasing ids → i < j → j < length ids → get_or ids i d < get_or ids j e
ahead_of ids i d j e rising lt within =
    let above : get_or ids i e < get_or ids j e = AllPairs-from_increasing ids rising i j e lt within in
    let same : get_or ids i e ≡ get_or ids i d = get_or_default ids i e d (omega (arith, lt, within)) in omega (arith, above, same)

pub put_more : (S : ℕ → Type 0) (ids : List ℕ) (i d : ℕ) (put next : List ℕ) → IsStrictlyIncreasing ids → i < length ids → PutsWhere (S (get_or ids i d)) (get_or ids i d) put next → ArePut S ids i put → ArePut S ids (i + 1) next
put_more S ids i d put next rising lt (inl h) p =
    let id = get_or ids i d in
    subst (ArePut S ids (i + 1)) (sym h.1) (record {
      rising = rising_pushed put id p.rising (λ n among. p.below n i d (of_among put n among) (omega arith) lt);
      exact = λ n. (
        λ c. elim (Contains-push_cases put id n c) [
          | inl a ↦ (front_left ids i d n lt ((p.exact n).0 a).0, ((p.exact n).0 a).1)
          | inr e ↦ (subst (Contains (take (i + 1) ids)) e (front_last ids i d lt), subst S e h.0)
        ],
        λ k. elim (front_cases ids i d n lt k.0) [
          | inl a ↦ Contains-append_left put (id ∷ []) n ((p.exact n).1 (a, k.1))
          | inr e ↦ subst (Contains (put ++ id ∷ [])) e (Contains-push put id)
        ],
      );
      below = λ n j e c le within. elim (Contains-push_cases put id n c) [
        | inl a ↦ p.below n j e a (omega (arith, le)) within
        | inr same ↦ (let above = ahead_of ids i d j e rising (omega (arith, le)) within in omega (arith, same, above))
      ];
    })
put_more S ids i d put next rising lt (inr h) p =
    subst (ArePut S ids (i + 1)) (sym h.1) (record {
      rising = p.rising;
      exact = λ n. (
        λ c. (front_left ids i d n lt ((p.exact n).0 c).0, ((p.exact n).0 c).1),
        λ k. elim (front_cases ids i d n lt k.0) [
          | inl a ↦ (p.exact n).1 (a, k.1)
          | inr e ↦ absurd (h.0 (subst S (sym e) k.1))
        ],
      );
      below = λ n j e c le within. p.below n j e c (omega (arith, le)) within;
    })

by_among : (ids : List ℕ) (n : ℕ) (C : Type 0) → (Contains ids n → C) → ((Contains ids n → ⊥) → C) → C
by_among ids n C with_it without_it = by_bool (is_among n ids) C (λ t. with_it (of_among ids n t)) (λ f. without_it (λ c. let t = among_of ids n c in absurd cc))

-- no other item is near: those that aren't found keep what they must
pub put_all : (p : Parts) (rules : List (Option ℕ)) (item : Item) (live : List (ℕ × Item)) (deletes : List ℕ) (filed : List Filed) (ids : List ℕ) (i : ℕ) (put : List ℕ) → length ids ≤ i → AreFiled p.stacks live filed → FindsAll (largest_of p rules) (copper_of_item p.stacks item) filed ids
    → ArePut (IsNear p rules live deletes item) ids i put → (n : ℕ) → Contains put n ↔ IsNear p rules live deletes item n
put_all p rules item live deletes filed ids i put past files finds h n = (
  λ c. ((h.exact n).0 c).1,
  λ near. by_among ids n (Contains put n)
      (λ c. (h.exact n).1 (subst (λ (l : List ℕ). Contains l n) (sym (take_all i ids past)) c, near))
      (λ missing. absurd (near.near (kept_where_missing p rules item live filed ids n near.other files finds near.other_is missing))),
)
