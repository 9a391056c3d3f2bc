-- Adds that are tested by themselves, one after another.
use Rattle.std.proofs.Common.{◌≡◌, ℕ, zero, suc, ◌+◌, List, [], ◌∷◌, ◌++◌, get_or, take, refl, sym, subst, ap, ◌∙◌, inl, inr, Bool, true, false, arith}
use Rattle.std.proofs.lemmas.List.{take_more}
use Rattle.std.specs.Prelude.{◌≤◌, ◌<◌, ◌↔◌, IsTrue, Option, Some, None, is_none, length, not}
use Rattle.std.specs.List.{AllByRecursion, AllZip}
use Rattle.board_items.specs.declared.requests.Add.{Add}
use Rattle.board_items.specs.declared.requests.Add.TheVariants as adds
use Rattle.board_items.specs.declared.history.Why.{Why}
use Rattle.board_items.specs.Adds.{item_of_add}
use Rattle.board_items.specs.Formed.{IsFormedAdd}
use Rattle.board_rules.specs.declared.design.Parts.{Parts}
use Rattle.board_rules.specs.Classes.{width_of}
use Rattle.board_rules.specs.Designs.{IsSound}
use Rattle.board_rules.specs.FitAdds.{IsFitAdd}
use Rattle.board_rules.specs.Reasons.{IsAddReason, IsAddsReason, IsOutside, IsBeyond, IsBarredVia}
use Rattle.board_rules.proofs.FitRequests.{add_fits, adds_fit}
use Rattle.board_core.specs.Verdicts.{IsRightAdd}
use Rattle.check_core.specs.Tries.{earlier_of}

-- an add against which nothing is said under one number is right
pub right_same : (p : Parts) (a : ℕ) (add : Add) → IsAddReason p a add None → IsRightAdd p add
right_same p a (adds.Wire net layer width points) (inl h) = absurd cc
right_same p a (adds.Wire net layer width points) (inr (_, inl h)) = absurd cc
right_same p a (adds.Wire net layer width points) (inr (_, inr (_, inl h))) = absurd cc
right_same p a (adds.Wire net layer width points) (inr (_, inr (_, inr (_, inl h)))) = absurd cc
right_same p a (adds.Wire net layer width points) (inr (x, inr (y, inr (z, inr (w, n))))) = inr (x, inr (y, inr (z, inr (w, refl))))
right_same p a (adds.Via net padstack place) (inl h) = absurd cc
right_same p a (adds.Via net padstack place) (inr (_, inl h)) = absurd cc
right_same p a (adds.Via net padstack place) (inr (_, inr (_, inl h))) = absurd cc
right_same p a (adds.Via net padstack place) (inr (_, inr (_, inr (_, inl h)))) = absurd cc
right_same p a (adds.Via net padstack place) (inr (x, inr (y, inr (z, inr (w, n))))) = inr (x, inr (y, inr (z, inr (w, refl))))

right_wire : (p : Parts) (net layer width : ℕ) (points : List _) → IsRightAdd p (adds.Wire net layer width points)
    → (length p.nets ≤ net → ⊥) × (length p.layers ≤ layer → ⊥) × (width < width_of p net → ⊥) × (IsOutside p (item_of_add (adds.Wire net layer width points)) → ⊥)
right_wire p net layer width points (inl h) = absurd cc
right_wire p net layer width points (inr (_, inl h)) = absurd cc
right_wire p net layer width points (inr (_, inr (_, inl h))) = absurd cc
right_wire p net layer width points (inr (_, inr (_, inr (_, inl h)))) = absurd cc
right_wire p net layer width points (inr (x, inr (y, inr (z, inr (w, n))))) = (x, y, z, w)

right_via : (p : Parts) (net padstack : ℕ) (place : _) → IsRightAdd p (adds.Via net padstack place)
    → (length p.nets ≤ net → ⊥) × (IsBarredVia p net padstack → ⊥) × (IsBeyond p (item_of_add (adds.Via net padstack place)) → ⊥) × (IsOutside p (item_of_add (adds.Via net padstack place)) → ⊥)
right_via p net padstack place (inl h) = absurd cc
right_via p net padstack place (inr (_, inl h)) = absurd cc
right_via p net padstack place (inr (_, inr (_, inl h))) = absurd cc
right_via p net padstack place (inr (_, inr (_, inr (_, inl h)))) = absurd cc
right_via p net padstack place (inr (x, inr (y, inr (z, inr (w, n))))) = (x, y, z, w)

-- one against which something is said isn't
pub not_right : (p : Parts) (a : ℕ) (add : Add) (why : Why) → IsAddReason p a add (Some why) → IsRightAdd p add → ⊥
not_right p a (adds.Wire net layer width points) why (inl h) right = (right_wire p net layer width points right).0 h.0
not_right p a (adds.Wire net layer width points) why (inr (_, inl h)) right = (right_wire p net layer width points right).1 h.0
not_right p a (adds.Wire net layer width points) why (inr (_, inr (_, inl h))) right = (right_wire p net layer width points right).2 h.0
not_right p a (adds.Wire net layer width points) why (inr (_, inr (_, inr (_, inl h)))) right = (right_wire p net layer width points right).3 h.0
not_right p a (adds.Wire net layer width points) why (inr (_, inr (_, inr (_, inr (_, n))))) right = absurd cc
not_right p a (adds.Via net padstack place) why (inl h) right = (right_via p net padstack place right).0 h.0
not_right p a (adds.Via net padstack place) why (inr (_, inl h)) right = (right_via p net padstack place right).1 h.0
not_right p a (adds.Via net padstack place) why (inr (_, inr (_, inl h))) right = (right_via p net padstack place right).2 h.0
not_right p a (adds.Via net padstack place) why (inr (_, inr (_, inr (_, inl h)))) right = (right_via p net padstack place right).3 h.0
not_right p a (adds.Via net padstack place) why (inr (_, inr (_, inr (_, inr (_, n))))) right = absurd cc

-- the mark of an add
pub right_told : (p : Parts) (a : ℕ) (add : Add) (own : Option Why) → IsAddReason p a add own → IsTrue (is_none own) ↔ IsRightAdd p add
right_told p a add None h = (λ t. right_same p a add h, λ r. refl)
right_told p a add (Some why) h = (λ t. absurd cc, λ r. absurd (not_right p a add why h r))

-- an add that is right is fit
pub right_fits : (p : Parts) (add : Add) → IsSound p → IsFormedAdd add → IsRightAdd p add → IsFitAdd p add
right_fits p add sound formed right = add_fits p 1 add sound formed right

-- adds against which nothing is said are
pub none_fits : (p : Parts) (all : List Add) (why : Option Why) → IsSound p → AllByRecursion IsFormedAdd all → IsAddsReason p 1 all why → why ≡ None → AllByRecursion (IsFitAdd p) all
none_fits p all why sound formed h none = adds_fit p 1 all sound formed (subst (IsAddsReason p 1 all) none h)

pub earlier_apart : (a b c : Option Why) → earlier_of (earlier_of a b) c ≡ earlier_of a (earlier_of b c)
earlier_apart None b c = refl
earlier_apart (Some a) b c = refl

-- the reason of an add and then that of the rest
pub adds_next : (p : Parts) (a : ℕ) (add : Add) (rest : List Add) (own more : Option Why) → IsAddReason p a add own → IsAddsReason p (a + 1) rest more → IsAddsReason p a (add ∷ rest) (earlier_of own more)
adds_next p a add rest None more h k = inr (h, k)
adds_next p a add rest (Some why) more h k = inl (refl, h)

-- ---- marks, one for each add

pub marks_many : {A B : Type 0} (R : A → B → Type 0) (xs : List A) (ys : List B) → AllZip R xs ys → length xs ≡ length ys
marks_many R [] [] h = refl
marks_many R [] (y ∷ ys) h = absurd h
marks_many R (x ∷ xs) [] h = absurd h
marks_many R (x ∷ xs) (y ∷ ys) h = ap suc (marks_many R xs ys h.1)

pub mark_at : {A B : Type 0} (R : A → B → Type 0) (xs : List A) (ys : List B) (i : ℕ) (d : A) (e : B) → i < length xs → AllZip R xs ys → R (get_or xs i d) (get_or ys i e)
mark_at R [] ys i d e lt h = absurd (omega (arith, lt))
mark_at R (x ∷ xs) [] i d e lt h = absurd h
mark_at R (x ∷ xs) (y ∷ ys) zero d e lt h = h.0
mark_at R (x ∷ xs) (y ∷ ys) (suc i) d e lt h = mark_at R xs ys i d e (omega (arith, lt)) h.1

mark_push : {A B : Type 0} (R : A → B → Type 0) (xs : List A) (ys : List B) (x : A) (y : B) → AllZip R xs ys → R x y → AllZip R (xs ++ x ∷ []) (ys ++ y ∷ [])
mark_push R [] [] x y h r = (r, tt)
mark_push R [] (z ∷ zs) x y h r = absurd h
mark_push R (w ∷ ws) [] x y h r = absurd h
mark_push R (w ∷ ws) (z ∷ zs) x y h r = (h.0, mark_push R ws zs x y h.1 r)

pub mark_more : {A B : Type 0} (R : A → B → Type 0) (xs : List A) (ys : List B) (i : ℕ) (x : A) (y : B) → i < length xs → x ≡ get_or xs i x → AllZip R (take i xs) ys → R x y → AllZip R (take (i + 1) xs) (ys ++ y ∷ [])
mark_more {A} R xs ys i x y lt is h r =
    let cut : take (i + 1) xs ≡ take i xs ++ x ∷ [] = take_more xs i x lt ∙ (λ j. take i xs ++ sym is j ∷ []) in
    subst (λ (l : List A). AllZip R l (ys ++ y ∷ [])) (sym cut) (mark_push R (take i xs) ys x y h r)

pub earlier_none : (a : Option Why) → earlier_of a None ≡ a
earlier_none None = refl
earlier_none (Some a) = refl

-- what isn't there, by the test of what is
pub turned : (a b : Bool) → a ≡ not b → b ≡ not a
turned true true e = absurd cc
turned true false e = refl
turned false true e = refl
turned false false e = absurd cc
