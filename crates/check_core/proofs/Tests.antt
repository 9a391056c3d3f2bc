-- What the test of one item against another says.
use Rattle.std.proofs.Common.{◌≡◌, ℕ, ◌-◌, ◌<◌, ◌≤◌, List, Bool, true, false, length, get_or, refl, subst, arith}
use Rattle.std.specs.Prelude.{IsTrue, not, ◌↔◌}
use Rattle.board_items.specs.declared.items.Item.{Item}
use Rattle.number_slots.specs.Slots.{numbered, IsAt}
use Rattle.check_core.specs.Nearest.{KeepsLater, IsTooNear}
use Rattle.check_core.proofs.Numbers.{at_number, number_within, number_once}

module _ (Keeps : Item → Item → Type 0) where
  not_kept : (x z : Item) (b : Bool) → IsTrue (not b) → (IsTrue b ↔ Keeps x z) → Keeps x z → ⊥
  not_kept x z true h k keeps = absurd cc
  not_kept x z false h k keeps = let e : false ≡ true = k.1 keeps in absurd cc

  is_kept : (x z : Item) (b : Bool) → IsTrue (not (not b)) → (IsTrue b ↔ Keeps x z) → Keeps x z
  is_kept x z true h k = k.0 refl
  is_kept x z false h k = absurd cc

  -- the item at a place, under the number that follows it
  under : (items : List Item) (d : ℕ) (z : Item) → 1 ≤ d → d - 1 < length items → z ≡ get_or items (d - 1) z → IsAt (numbered 1 items) d z
  under items d z le lt at = subst (λ (m : ℕ). IsAt (numbered 1 items) m z) (omega arith) (at_number 1 (d - 1) items z lt at)

  pub too_near_when : (items : List Item) (n d : ℕ) (x z : Item) (b : Bool) → n < d → d - 1 < length items → z ≡ get_or items (d - 1) z → (IsTrue b ↔ Keeps x z) → IsTrue (not b) → IsTooNear Keeps (numbered 1 items) n x d
  too_near_when items n d x z b later lt at test h = record { later = later; other = z; other_is = under items d z (omega arith) lt at; near = not_kept x z b h test }

  pub kept_when : (items : List Item) (n d : ℕ) (x z : Item) (b : Bool) → n < d → d - 1 < length items → z ≡ get_or items (d - 1) z → (IsTrue b ↔ Keeps x z) → IsTrue (not (not b)) → KeepsLater Keeps (numbered 1 items) n x d
  kept_when items n d x z b later lt at test h y _ found =
      subst (λ (w : Item). Keeps x w) (number_once 1 items d z y (under items d z (omega arith) lt at) found) (is_kept x z b h test)

  -- no item has a number past the last
  pub kept_past : (items : List Item) (n d : ℕ) (x : Item) → n < d → length items ≤ d - 1 → KeepsLater Keeps (numbered 1 items) n x d
  kept_past items n d x later past y _ found = let lt = number_within 1 items d y found in absurd (omega arith)
