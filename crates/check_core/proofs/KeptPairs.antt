-- The least pair of items that are too near, by the lower number one after another.
use Rattle.std.proofs.Common.{◌≡◌, ℕ, ◌+◌, ◌<◌, ◌≤◌, ◌⊎◌, inl, inr, List, length, get_or, arith, subst}
use Rattle.std.specs.Prelude.{Option, Some, None}
use Rattle.board_items.specs.declared.items.Item.{Item}
use Rattle.board_rules.specs.declared.design.Parts.{Parts}
use Rattle.board_rules.specs.Needs.{KeepsNeed}
use Rattle.number_slots.specs.Slots.{numbered, IsAt}
use Rattle.board_core.specs.Clean.{IsCleanBoard, IsLeastPair, GoesBefore}
use Rattle.check_core.specs.Nearest.{IsLeastOf, Each}
use Rattle.check_core.proofs.Numbers.{from_first, at_number, number_within, number_once}

at_place : (items : List Item) (i : ℕ) (x : Item) → i < length items → x ≡ get_or items i x → IsAt (numbered 1 items) (i + 1) x
at_place items i x lt at = subst (λ (n : ℕ). IsAt (numbered 1 items) n x) (omega arith) (at_number 1 i items x lt at)

module _ (p : Parts) (rules : List (Option ℕ)) (items : List Item) where
  -- each pair whose lower number is at most i keeps its need
  pub record ArePairsKept (i : ℕ) : Type 0 where
    pub kept : (c d : ℕ) (x y : Item) → c ≤ i → c < d → IsAt (numbered 1 items) c x → IsAt (numbered 1 items) d y → KeepsNeed p rules x y

  pub pairs_none : ArePairsKept 0
  pairs_none = record { kept = λ c d x y le less f g. let low = from_first 1 items c x f in absurd (omega arith) }

  kept_by : (i : ℕ) (z : Item) → i < length items → z ≡ get_or items i z → IsLeastOf (KeepsNeed p rules) (numbered 1 items) (i + 1) z Each None → ArePairsKept i
      → (c d : ℕ) (x y : Item) → c ≤ i + 1 → c < d → IsAt (numbered 1 items) c x → IsAt (numbered 1 items) d y → KeepsNeed p rules x y
  kept_by i z lt at none h c d x y le less f g =
      let split : (c ≤ i) ⊎ (c ≡ i + 1) = grind arith in
      elim split [
        | inl low ↦ h.kept c d x y low less f g
        | inr here ↦
            let same : z ≡ x = number_once 1 items (i + 1) z x (at_place items i z lt at) (subst (λ (n : ℕ). IsAt (numbered 1 items) n x) here f) in
            subst (λ (w : Item). KeepsNeed p rules w y) same (none d tt y (omega arith) g)
      ]

  pub pairs_more : (i : ℕ) (z : Item) → i < length items → z ≡ get_or items i z → IsLeastOf (KeepsNeed p rules) (numbered 1 items) (i + 1) z Each None → ArePairsKept i → ArePairsKept (i + 1)
  pairs_more i z lt at none h = record { kept = kept_by i z lt at none h }

  pub pairs_all : (i : ℕ) → length items ≤ i → ArePairsKept i → IsCleanBoard p rules (numbered 1 items)
  pairs_all i past h = λ a b x y less f g. let low = number_within 1 items a x f in h.kept a b x y (omega arith) less f g

  least_by : (i b : ℕ) (z : Item) → i < length items → z ≡ get_or items i z → IsLeastOf (KeepsNeed p rules) (numbered 1 items) (i + 1) z Each (Some b) → ArePairsKept i
      → (c d : ℕ) (x y : Item) → c < d → GoesBefore c d (i + 1) b → IsAt (numbered 1 items) c x → IsAt (numbered 1 items) d y → KeepsNeed p rules x y
  least_by i b z lt at nearest h c d x y less (inl low) f g = h.kept c d x y (omega arith) less f g
  least_by i b z lt at nearest h c d x y less (inr here) f g =
      let same : z ≡ x = number_once 1 items (i + 1) z x (at_place items i z lt at) (subst (λ (n : ℕ). IsAt (numbered 1 items) n x) here.0 f) in
      subst (λ (w : Item). KeepsNeed p rules w y) same (nearest.1 d tt here.1 y (omega (arith, here.0)) g)

  pub pairs_here : (i b : ℕ) (z : Item) → i < length items → z ≡ get_or items i z → IsLeastOf (KeepsNeed p rules) (numbered 1 items) (i + 1) z Each (Some b) → ArePairsKept i → IsLeastPair p rules (numbered 1 items) (i + 1) b
  pairs_here i b z lt at nearest h = record {
    first = z;
    second = nearest.0.other;
    order = nearest.0.later;
    first_is = at_place items i z lt at;
    second_is = nearest.0.other_is;
    near = nearest.0.near;
    least = least_by i b z lt at nearest h;
  }
