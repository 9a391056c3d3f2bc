-- The least item of a greater number that an item is too near to, by numbers one after another.
use Rattle.std.proofs.Common.{◌≡◌, ℕ, ◌+◌, ◌<◌, ◌≤◌, ◌⊎◌, inl, inr, List, Bool, true, false, length, get_or, arith, refl, subst, ◌∙◌}
use Rattle.std.specs.Prelude.{Option, Some, None}
use Rattle.std.specs.List.{Contains}
use Rattle.std.specs.List.Sorted.{IsStrictlyIncreasing}
use Rattle.std.specs.Bool.{Decides}
use Rattle.std.proofs.lemmas.Bool.Decides.{Decides-eqb}
use Rattle.std.proofs.lemmas.Map.Made.{is_member-Decides}
use Rattle.std.proofs.lemmas.List.{get_or_default}
use Rattle.std.proofs.lemmas.List.Kept.{AllPairs-from_increasing}
use Rattle.board_items.specs.declared.items.Item.{Item}
use Rattle.number_slots.specs.Slots.{IsAt}
use Rattle.check_core.specs.Nearest.{KeepsLater, IsTooNear, IsLeastOf, Each}

module _ (Keeps : Item → Item → Type 0) (live : List (ℕ × Item)) (n : ℕ) (x : Item) where
  -- the first i numbers are of items from which what must be kept is kept
  pub record AreKept (ids : List ℕ) (i : ℕ) : Type 0 where
    pub kept : (k d : ℕ) → k < i → k < length ids → get_or ids k d ≡ d → KeepsLater Keeps live n x d

  pub kept_none : (ids : List ℕ) → AreKept ids 0
  kept_none ids = record { kept = λ k d lt within at. absurd (omega arith) }

  kept_at : (ids : List ℕ) (i id : ℕ) → id ≡ get_or ids i id → AreKept ids i → KeepsLater Keeps live n x id
      → (k d : ℕ) → k < i + 1 → k < length ids → get_or ids k d ≡ d → KeepsLater Keeps live n x d
  kept_at ids i id at h here k d lt within is =
      let split : (k < i) ⊎ (k ≡ i) = grind arith in
      elim split [
        | inl less ↦ h.kept k d less within is
        | inr same ↦ subst (λ (m : ℕ). KeepsLater Keeps live n x m)
            (at ∙ get_or_default ids i id d (subst (λ (m : ℕ). m < length ids) same within) ∙ subst (λ (m : ℕ). get_or ids m d ≡ d) same is) here
      ]

  pub kept_more : (ids : List ℕ) (i id : ℕ) → id ≡ get_or ids i id → AreKept ids i → KeepsLater Keeps live n x id → AreKept ids (i + 1)
  kept_more ids i id at h here = record { kept = kept_at ids i id at h here }

  pub least_none : (ids : List ℕ) (i : ℕ) → length ids ≤ i → AreKept ids i → IsLeastOf Keeps live n x (Contains ids) None
  least_none ids i past h = λ d at. h.kept at.0 d (omega (arith, at.1)) at.1 at.2

  not_below : (ids : List ℕ) (i b k d : ℕ) → IsStrictlyIncreasing ids → i < length ids → b ≡ get_or ids i b → i ≤ k → k < length ids → get_or ids k d ≡ d → d < b → ⊥
  not_below ids i b k d rising lt at le within is less =
      let here : get_or ids i b ≡ get_or ids i d = get_or_default ids i b d lt in
      let split : (i < k) ⊎ (k ≡ i) = grind arith in
      elim split [
        | inl more ↦ let above : get_or ids i d < get_or ids k d = AllPairs-from_increasing ids rising i k d more within in omega arith
        | inr same ↦ let there : get_or ids i d ≡ d = subst (λ (m : ℕ). get_or ids m d ≡ d) same is in omega arith
      ]

  pub least_here : (ids : List ℕ) (i b : ℕ) → IsStrictlyIncreasing ids → i < length ids → b ≡ get_or ids i b → AreKept ids i → IsTooNear Keeps live n x b → IsLeastOf Keeps live n x (Contains ids) (Some b)
  least_here ids i b rising lt at h near = (
    near,
    λ d is less.
        let split : (is.0 < i) ⊎ (i ≤ is.0) = grind arith in
        elim split [
          | inl before ↦ h.kept is.0 d before is.1 is.2
          | inr behind ↦ absurd (not_below ids i b is.0 d rising lt at behind is.1 is.2 less)
        ],
  )

  one_by : (b : Bool) (C D : Type 0) → Decides b C → (C → D) → ((C → ⊥) → D) → D
  one_by true C D e with_it without_it = with_it (e.0 refl)
  one_by false C D e with_it without_it = without_it (λ c. let wrong : false ≡ true = e.1 c in absurd cc)

  -- a number is one of a list, or isn't
  among : (ids : List ℕ) (d : ℕ) (D : Type 0) → (Contains ids d → D) → ((Contains ids d → ⊥) → D) → D
  among ids d D with_it without_it = one_by _ (Contains ids d) D (is_member-Decides Decides-eqb ids d) with_it without_it

  -- what is least of some numbers is least of all, where all others are of items from which what must be kept is kept
  pub least_of_each : (ids : List ℕ) (o : Option ℕ) → ((d : ℕ) (y : Item) → IsAt live d y → (Contains ids d → ⊥) → Keeps x y) → IsLeastOf Keeps live n x (Contains ids) o → IsLeastOf Keeps live n x Each o
  least_of_each ids None others h = λ d _ y later at. among ids d (Keeps x y) (λ c. h d c y later at) (λ missing. others d y at missing)
  least_of_each ids (Some b) others h = (h.0, λ d _ less y later at. among ids d (Keeps x y) (λ c. h.1 d c less y later at) (λ missing. others d y at missing))
