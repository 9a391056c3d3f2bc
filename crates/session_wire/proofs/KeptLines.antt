-- Where lines end, and how kept lines join.
use Rattle.std.proofs.Common.{◌≡◌, ℕ, zero, suc, ◌+◌, ◌<◌, ◌≤◌, Bool, true, false, cond, eqb, List, [], ◌∷◌, ◌++◌, length, get_or, take, drop, Some, None, refl, sym, ap, ◌∙◌, arith, drop-cons, add-one, append_assoc, subst}
use Rattle.std.specs.List.{position, position_or_len, flat_map, AllByRecursion}
use Rattle.std.proofs.lemmas.Bool.{eqb-true, eqb-false, ltb-false}
use Rattle.std.proofs.lemmas.List.{take-append-drop, length-take, get_or-take, take-append-le, take_all, append-nil}
use Rattle.std.proofs.lemmas.List.Quantifiers.{position-Some}
use Rattle.std.proofs.lemmas.List.Sums.{fails_before_first}
use Rattle.session_wire.specs.Steps.{IsLine}
use Rattle.session_wire.proofs.LineFeeds.{line_by_index, line_append}
use Rattle.session_wire.specs.Kept.{ended, kept, first_length, IsOverlong}

abbrev is_break : ℕ → Bool
is_break b = eqb b 10

-- the front before the first break
pub line_before : (text : List ℕ) (i : ℕ) → position is_break text ≡ Some i → IsLine (take i text) × (text ≡ take i text ++ 10 ∷ drop (i + 1) text) × (i < length text)
line_before text i e =
    let at = position-Some is_break text i 0 e in
    let here : get_or text i 0 ≡ 10 = eqb-true _ _ at.1 in
    let within : i < length text = at.0 in
    let rest : drop i text ≡ 10 ∷ drop (i + 1) text = rw (add-one, drop-cons text i 0) (ap (λ (b : ℕ). b ∷ drop (suc i) text) here) in
    let front : IsLine (take i text) = line_by_index (take i text) (λ k lt. let below : k < i = omega (arith, length-take i text) in rw (get_or-take i text k 0 below) (eqb-false _ _ (at.2 k below))) in
    (front, sym (take-append-drop i text) ∙ ap (λ (x : List ℕ). take i text ++ x) rest, within)

none_is : (b : Bool) (m : ℕ) → cond b (Some m) None ≡ None → b ≡ false
none_is true m e = absurd cc
none_is false m e = refl

-- without a break, all of it is a line
pub line_whole : (text : List ℕ) → position is_break text ≡ None → IsLine text
line_whole text e =
    let past : length text ≤ position_or_len is_break text = ltb-false _ _ (none_is _ _ e) in
    line_by_index text (λ i lt. eqb-false _ _ (fails_before_first is_break text i 0 (omega arith)))

pub line_take : (n : ℕ) (xs : List ℕ) → IsLine xs → IsLine (take n xs)
line_take zero xs p = tt
line_take (suc n) [] p = tt
line_take (suc n) (x ∷ xs) p = (p.0, line_take n xs p.1)

pub lines_append : (ls ms : List (List ℕ)) → AllByRecursion IsLine ls → AllByRecursion IsLine ms → AllByRecursion IsLine (ls ++ ms)
lines_append [] ms p q = q
lines_append (l ∷ ls) ms p q = (p.0, lines_append ls ms p.1 q)

pub ended_append : (ls ms : List (List ℕ)) → flat_map ended (ls ++ ms) ≡ flat_map ended ls ++ flat_map ended ms
ended_append [] ms = refl
ended_append (l ∷ ls) ms = ap (λ (x : List ℕ). ended l ++ x) (ended_append ls ms) ∙ sym (append_assoc (ended l) (flat_map ended ls) (flat_map ended ms))

-- the first kept line, and what follows it
pub kept_first : (line : List ℕ) (lines : List (List ℕ)) (tail : List ℕ) → kept (line ∷ lines) tail ≡ line ++ 10 ∷ kept lines tail
kept_first line lines tail = append_assoc (ended line) (flat_map ended lines) tail ∙ append_assoc line (10 ∷ []) (kept lines tail)

-- more lines behind kept ones, the first of which began with the tail
pub kept_more : (ls ms : List (List ℕ)) (tail piece last : List ℕ) → tail ++ piece ≡ kept ms last → kept (ls ++ ms) last ≡ kept ls tail ++ piece
kept_more ls ms tail piece last e =
    ap (λ (x : List ℕ). x ++ last) (ended_append ls ms)
    ∙ append_assoc (flat_map ended ls) (flat_map ended ms) last
    ∙ ap (λ (x : List ℕ). flat_map ended ls ++ x) (sym e)
    ∙ sym (append_assoc (flat_map ended ls) tail piece)

-- one line more is cut off
pub cut_more : (whole : List ℕ) (lines : List (List ℕ)) (line front after rest : List ℕ) → rest ≡ front ++ 10 ∷ after → whole ≡ flat_map ended lines ++ (line ++ rest) → whole ≡ flat_map ended (lines ++ (line ++ front) ∷ []) ++ ([] ++ after)
cut_more whole lines line front after rest parts e =
    e ∙ ap (λ (x : List ℕ). flat_map ended lines ++ (line ++ x)) parts
    ∙ sym (ap (λ (x : List ℕ). x ++ after) (ended_append lines ((line ++ front) ∷ []))
    ∙ append_assoc (flat_map ended lines) (flat_map ended ((line ++ front) ∷ [])) after
    ∙ ap (λ (x : List ℕ). flat_map ended lines ++ x) (kept_first (line ++ front) [] after ∙ append_assoc line front (10 ∷ after)))

pub overlong_line : (line rest : List ℕ) → IsLine line → 8192 < length line → IsOverlong (line ++ rest)
overlong_line line rest p many = record {
  many = let sizes = Rattle.std.proofs.lemmas.List.length-append line rest in omega (arith, sizes);
  unended = rw (take-append-le 8193 line rest (omega arith)) (line_take 8193 line p);
}

pub overlong_first : (lines : List (List ℕ)) (tail : List ℕ) → AllByRecursion IsLine lines → 8192 < first_length lines → IsOverlong (kept lines tail)
overlong_first [] tail p many = absurd (omega arith)
overlong_first (line ∷ lines) tail p many =
    let P : List ℕ → Type 0 = IsOverlong in
    subst P (sym (kept_first line lines tail)) (overlong_line line (10 ∷ kept lines tail) p.0 many)

pub overlong_tail : (tail : List ℕ) → IsLine tail → 8192 < length tail → IsOverlong tail
overlong_tail tail p many = record { many = omega arith; unended = line_take 8193 tail p }

pub line_if : (b : Bool) (xs ys : List ℕ) → IsLine xs → IsLine ys → IsLine (cond b (xs ++ ys) xs)
line_if true xs ys p q = line_append xs ys p q
line_if false xs ys p q = p
