-- What holds of some element of a list.
use Rattle.std.proofs.Common.{◌≡◌, ℕ, zero, suc, List, [], ◌∷◌, refl, sym, subst, arith, inl, inr, true}
use Rattle.std.specs.Prelude.{Any}
use Rattle.number_slots.specs.Slots.{is_among}
use Rattle.number_slots.proofs.ByNumber.{among_cases}

-- the first element
pub any_first : {T : Type 0} (P : T → Type 0) (x : T) (xs : List T) → P x → Any P (x ∷ xs)
any_first P x xs h = (zero, x, omega arith, refl, h)

-- an element behind the first one
pub any_later : {T : Type 0} (P : T → Type 0) (x : T) (xs : List T) → Any P xs → Any P (x ∷ xs)
any_later P x xs h = (suc h.0, h.1, omega (arith, h.2), h.3, h.4)

-- a number among others
pub any_among : (P : ℕ → Type 0) (ids : List ℕ) (n : ℕ) → is_among n ids ≡ true → P n → Any P ids
any_among P [] n among h = absurd cc
any_among P (m ∷ ids) n among h = elim (among_cases n m ids among) [ inl same ↦ any_first P m ids (subst P (sym same) h) | inr later ↦ any_later P m ids (any_among P ids n later h) ]
