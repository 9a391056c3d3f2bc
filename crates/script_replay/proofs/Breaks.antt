-- Where the first line of a text ends.
use Rattle.std.proofs.Common.{◌≡◌, ◌≢◌, ℕ, suc, ◌+◌, ◌<◌, ◌≤◌, Bool, true, false, cond, eqb, List, [], ◌∷◌, ◌++◌, length, get_or, take, drop, Some, None, refl, sym, ap, ◌∙◌, arith, drop-cons, add-one}
use Rattle.std.specs.List.{position, position_or_len}
use Rattle.std.proofs.lemmas.Bool.{eqb-true, eqb-false, ltb-false}
use Rattle.std.proofs.lemmas.List.{take-append-drop, length-take, get_or-take}
use Rattle.std.proofs.lemmas.List.Quantifiers.{position-Some}
use Rattle.std.proofs.lemmas.List.Sums.{fails_before_first}
use Rattle.session_wire.specs.Steps.{IsLine}

abbrev is_break : ℕ → Bool
is_break b = eqb b 10

-- by index, as by recursion
line_by_index : (xs : List ℕ) → ((i : ℕ) → i < length xs → get_or xs i 0 ≢ 10) → IsLine xs
line_by_index [] h = tt
line_by_index (x ∷ xs) h = (h 0 (omega arith), line_by_index xs (λ i lt. h (suc i) (omega arith)))

-- the front before the first break
pub line_before : (text : List ℕ) (i : ℕ) → position is_break text ≡ Some i → IsLine (take i text) × (text ≡ take i text ++ 10 ∷ drop (i + 1) text) × (i < length text)
line_before text i e =
    let at = position-Some is_break text i 0 e in
    let here : get_or text i 0 ≡ 10 = eqb-true _ _ at.1 in
    let within : i < length text = at.0 in
    let rest : drop i text ≡ 10 ∷ drop (i + 1) text = rw (add-one, drop-cons text i 0) (ap (λ (b : ℕ). b ∷ drop (suc i) text) here) in
    let front : IsLine (take i text) = line_by_index (take i text) (λ k lt. let below : k < i = omega (arith, length-take i text) in rw (get_or-take i text k 0 below) (eqb-false _ _ (at.2 k below))) in
    (front, sym (take-append-drop i text) ∙ ap (λ (x : List ℕ). take i text ++ x) rest, within)

at_none : (b : Bool) (m : ℕ) → cond b (Some m) None ≡ None → b ≡ false
at_none true m e = absurd cc
at_none false m e = refl

get_at_seam : (xs ys : List ℕ) → get_or (xs ++ 10 ∷ ys) (length xs) 0 ≡ 10
get_at_seam [] ys = refl
get_at_seam (x ∷ xs) ys = get_at_seam xs ys

within_seam : (xs ys : List ℕ) → length xs < length (xs ++ 10 ∷ ys)
within_seam [] ys = omega arith
within_seam (x ∷ xs) ys = omega (arith, within_seam xs ys)

pub no_break : (text line more : List ℕ) → position is_break text ≡ None → text ≢ line ++ 10 ∷ more
no_break text line more e parts =
    let past : length text ≤ position_or_len is_break text = ltb-false _ _ (at_none _ _ e) in
    let within : length line < length text = rw parts (within_seam line more) in
    let fails : is_break (get_or text (length line) 0) ≡ false = fails_before_first is_break text (length line) 0 (omega arith) in
    let here : get_or text (length line) 0 ≡ 10 = rw parts (get_at_seam line more) in
    eqb-false _ _ fails here

head_is : (a b : ℕ) (x y : List ℕ) → a ∷ x ≡ b ∷ y → (a ≡ b) × (x ≡ y)
head_is a b x y e = (cc, cc)

-- a text has one first line
pub one_line : (a b x y : List ℕ) → IsLine a → IsLine b → a ++ 10 ∷ x ≡ b ++ 10 ∷ y → (a ≡ b) × (x ≡ y)
one_line [] [] x y p q e = (refl, (head_is 10 10 x y e).1)
one_line [] (b ∷ bs) x y p q e = absurd (q.0 (sym (head_is 10 b x _ e).0))
one_line (a ∷ others) [] x y p q e = absurd (p.0 (head_is a 10 _ y e).0)
one_line (a ∷ others) (b ∷ bs) x y p q e =
    let h = head_is a b _ _ e in
    let r = one_line others bs x y p.1 q.1 h.1 in
    (cc, r.1)
