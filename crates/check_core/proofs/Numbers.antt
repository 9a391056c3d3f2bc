-- Items under their numbers.
use Rattle.std.proofs.Common.{◌≡◌, ℕ, zero, suc, ◌+◌, ◌<◌, ◌≤◌, inl, inr, List, [], ◌∷◌, ◌++◌, length, get_or, sym, ap, subst, ◌∙◌, arith}
use Rattle.board_items.specs.declared.items.Item.{Item}
use Rattle.number_slots.specs.Slots.{numbered, IsAt}

-- no number of a numbered list lies below its first one
pub from_first : (n : ℕ) (items : List Item) (d : ℕ) (y : Item) → IsAt (numbered n items) d y → n ≤ d
from_first n [] d y f = absurd f
from_first n (x ∷ rest) d y (inl f) = omega (arith, f.0)
from_first n (x ∷ rest) d y (inr f) = omega (arith, from_first (n + 1) rest d y f)

-- the item at a place stands under its number
pub at_number : (n i : ℕ) (items : List Item) (x : Item) → i < length items → x ≡ get_or items i x → IsAt (numbered n items) (n + i) x
at_number n i [] x lt e = absurd (omega arith)
at_number n zero (y ∷ rest) x lt e = inl (omega arith, sym e)
at_number n (suc i) (y ∷ rest) x lt e = inr (subst (λ (m : ℕ). IsAt (numbered (n + 1) rest) m x) (omega arith) (at_number (n + 1) i rest x (omega arith) e))

-- a number's place is in the list
pub number_within : (n : ℕ) (items : List Item) (d : ℕ) (y : Item) → IsAt (numbered n items) d y → d < n + length items
number_within n [] d y f = absurd f
number_within n (x ∷ rest) d y (inl f) = omega (arith, f.0)
number_within n (x ∷ rest) d y (inr f) = let lt = number_within (n + 1) rest d y f in omega arith

-- under a number one item alone stands
pub number_once : (n : ℕ) (items : List Item) (d : ℕ) (y z : Item) → IsAt (numbered n items) d y → IsAt (numbered n items) d z → y ≡ z
number_once n [] d y z f g = absurd f
number_once n (x ∷ rest) d y z (inl f) (inl g) = sym f.1 ∙ g.1
number_once n (x ∷ rest) d y z (inl f) (inr g) = let le = from_first (n + 1) rest d z g in absurd (omega (arith, f.0))
number_once n (x ∷ rest) d y z (inr f) (inl g) = let le = from_first (n + 1) rest d y f in absurd (omega (arith, g.0))
number_once n (x ∷ rest) d y z (inr f) (inr g) = number_once (n + 1) rest d y z f g

-- one more item at the end
pub numbered_push : (n : ℕ) (items : List Item) (x : Item) → numbered n (items ++ x ∷ []) ≡ numbered n items ++ (n + length items, x) ∷ []
numbered_push n [] x = let e : n ≡ n + 0 = omega arith in λ i. (e i, x) ∷ []
numbered_push n (y ∷ rest) x =
    let e : n + 1 + length rest ≡ n + suc (length rest) = omega arith in
    ap (λ (l : List (ℕ × Item)). (n, y) ∷ l) (numbered_push (n + 1) rest x ∙ ap (λ (m : ℕ). numbered (n + 1) rest ++ (m, x) ∷ []) e)
