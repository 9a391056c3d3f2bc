-- Digits, cuts and a mantissa, as the reading of a number text gives them.
use Rattle.std.proofs.Common.{◌≡◌, ℕ, ◌<◌, ◌≤◌, Bool, true, false, cond, List, [], ◌∷◌, ◌++◌, length, Option, Some, None, IsSome, SomeIff, refl, sym, ap, ◌∙◌, arith}
use Rattle.std.specs.Char.{is_digit}
use Rattle.std.specs.List.{position, list_all}
use Rattle.std.specs.Str.Parse.{AllDigits, digits_value}
use Rattle.std.proofs.lemmas.Bool.{false≢true, lt-ltb, ltb-true, le-leb, leb-true, and_from, and_parts}
use Rattle.std.proofs.lemmas.List.{append-nil, length-append}
use Rattle.sexp_text.specs.NumberTexts.{IsMantissa, point_bytes, behind}
use Rattle.sexp_text.specs.NumberParts.{is_either, IsFree}
use Rattle.sexp_text.specs.LengthReading.{halves, cut_in, are_digits, point_in, pointed, mantissa_in}
use Rattle.sexp_text.proofs.Cuts.{position_found, position_none, cut_found, cut_parts}
use Rattle.sexp_text.proofs.DigitLists.{no_point}
use Rattle.sexp_text.proofs.NumberReadings.{some_of, holds_of, is_point}

-- digits

all_from_digits : (ds : List ℕ) → AllDigits 10 ds → list_all (λ c. is_digit c 10) ds ≡ true
all_from_digits [] d = refl
all_from_digits (c ∷ cs) d = and_from _ _ (lt-ltb _ _ d.0) (all_from_digits cs d.1)

digits_from_all : (ds : List ℕ) → list_all (λ c. is_digit c 10) ds ≡ true → AllDigits 10 ds
digits_from_all [] e = tt
digits_from_all (c ∷ cs) e = let h = and_parts _ _ e in (ltb-true _ _ h.0, digits_from_all cs h.1)

digits_append : (xs ys : List ℕ) → AllDigits 10 xs → AllDigits 10 ys → AllDigits 10 (xs ++ ys)
digits_append [] ys d e = e
digits_append (c ∷ cs) ys d e = (d.0, digits_append cs ys d.1 e)

digits_parts : (xs ys : List ℕ) → AllDigits 10 (xs ++ ys) → AllDigits 10 xs × AllDigits 10 ys
digits_parts [] ys d = (tt, d)
digits_parts (c ∷ cs) ys d = let h = digits_parts cs ys d.1 in ((d.0, h.0), h.1)

pub few_to : (most : ℕ) (ds : List ℕ) → AllDigits 10 ds → 1 ≤ length ds → length ds ≤ most → are_digits most ds ≡ true
unfolding are_digits
few_to most ds d some few = and_from _ _ (and_from _ _ (lt-ltb 0 (length ds) (omega arith)) (le-leb _ _ few)) (all_from_digits ds d)

pub few_from : (most : ℕ) (ds : List ℕ) → are_digits most ds ≡ true → AllDigits 10 ds × (0 < length ds) × (length ds ≤ most)
unfolding are_digits
few_from most ds e =
    let h = and_parts _ _ e in
    let k = and_parts _ _ h.0 in
    (digits_from_all ds h.1, ltb-true 0 _ k.0, leb-true _ _ k.1)

some_where : {T : Type 0} (b : Bool) (P : Type 0) (v : T) → (b ≡ true → P) → (P → b ≡ true) → SomeIff (cond b (Some v) None) P v
some_where true P v f g = (f refl, refl)
some_where false P v f g = λ p. false≢true (g p)

mantissa_from : (whole fraction : List ℕ) → are_digits 30 (whole ++ fraction) ≡ true → IsMantissa whole fraction
mantissa_from whole fraction e =
    let h = few_from 30 (whole ++ fraction) e in
    let d = digits_parts whole fraction h.0 in
    let n = length-append whole fraction in
    let some = h.1 in
    let few = h.2 in
    record { whole_digits = d.0; fraction_digits = d.1; some = omega arith; at_most = omega arith }

mantissa_to : (whole fraction : List ℕ) → IsMantissa whole fraction → are_digits 30 (whole ++ fraction) ≡ true
mantissa_to whole fraction m =
    let n = length-append whole fraction in
    let some = m.some in
    let few = m.at_most in
    few_to 30 (whole ++ fraction) (digits_append whole fraction m.whole_digits m.fraction_digits) (omega arith) (omega arith)

point_is : (whole fraction : List ℕ) → SomeIff (point_in whole fraction) (IsMantissa whole fraction) (digits_value 10 (whole ++ fraction), length fraction)
unfolding point_in
point_is whole fraction = some_where _ _ _ (mantissa_from whole fraction) (mantissa_to whole fraction)

-- cuts

pub cut_is : (a b : ℕ) (front rest : List ℕ) (m : ℕ) → IsFree a b front → is_either a b m ≡ true → cut_in a b (front ++ m ∷ rest) ≡ Some (front, rest)
unfolding cut_in
cut_is a b front rest m free marked =
    let at = position_found (is_either a b) front rest m free marked in
    let h = cut_found (is_either a b) (front ++ m ∷ rest) front rest m (length front) (sym at) free marked refl in
    ap (halves (front ++ m ∷ rest)) at ∙ rw (h.0, h.1) refl

pub cut_none : (a b : ℕ) (text : List ℕ) → IsFree a b text → cut_in a b text ≡ None
unfolding cut_in
cut_none a b text free = ap (halves text) (position_none (is_either a b) text free)

some_pair : (x y : List ℕ × List ℕ) → Some x ≡ Some y → x ≡ y
some_pair x y e = cc

halves_parts : (a b : ℕ) (text : List ℕ) (c : List ℕ × List ℕ) (at : Option ℕ) → at ≡ position (is_either a b) text → halves text at ≡ Some c → (m : ℕ) × (is_either a b m ≡ true) × (text ≡ c.0 ++ m ∷ c.1)
halves_parts a b text c None e h = absurd cc
halves_parts a b text c (Some i) e h =
    let same = some_pair _ _ h in
    let k = cut_parts (is_either a b) text i e in
    (k.0, k.1, k.2 ∙ ap (λ (x : List ℕ × List ℕ). x.0 ++ k.0 ∷ x.1) same)

pub parts_of : (a b : ℕ) (text : List ℕ) (c : List ℕ × List ℕ) → cut_in a b text ≡ Some c → (m : ℕ) × (is_either a b m ≡ true) × (text ≡ c.0 ++ m ∷ c.1)
unfolding cut_in
parts_of a b text c h = halves_parts a b text c _ refl h

-- a mantissa

pub mantissa_all : (whole : List ℕ) (fraction : Option (List ℕ)) → IsMantissa whole (behind fraction) → mantissa_in (whole ++ point_bytes fraction) ≡ Some (digits_value 10 (whole ++ behind fraction), length (behind fraction))
unfolding mantissa_in
mantissa_all whole None m =
    let cut = cut_none 46 46 whole (no_point whole m.whole_digits) in
    ap mantissa_in (append-nil whole) ∙ ap (pointed whole) cut ∙ some_of _ _ _ (point_is whole []) m
mantissa_all whole (Some f) m =
    let cut = cut_is 46 46 whole f 46 (no_point whole m.whole_digits) refl in
    ap (pointed (whole ++ 46 ∷ f)) cut ∙ some_of _ _ _ (point_is whole f) m

pointed_some : (text : List ℕ) (c : Option (List ℕ × List ℕ)) → cut_in 46 46 text ≡ c → IsSome (pointed text c) → (whole : List ℕ) × (fraction : Option (List ℕ)) × IsMantissa whole (behind fraction) × (text ≡ whole ++ point_bytes fraction)
pointed_some text None e s = (text, None, holds_of _ _ _ (point_is text []) s, sym (append-nil text))
pointed_some text (Some c) e s =
    let parts = parts_of 46 46 text c e in
    let point : parts.0 ≡ 46 = is_point parts.0 parts.1 in
    (c.0, Some c.1, holds_of _ _ _ (point_is c.0 c.1) s, rw point at parts.2)

pub mantissa_some : (text : List ℕ) → IsSome (mantissa_in text) → (whole : List ℕ) × (fraction : Option (List ℕ)) × IsMantissa whole (behind fraction) × (text ≡ whole ++ point_bytes fraction)
unfolding mantissa_in
mantissa_some text s = pointed_some text _ refl s
