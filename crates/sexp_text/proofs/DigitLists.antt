-- Digits: what they aren't, and the number that they write.
use Rattle.std.proofs.Common.{◌≡◌, ◌≢◌, ℕ, ◌+◌, ◌-◌, ◌*◌, ◌<◌, ◌≤◌, ◌⊎◌, false, List, [], ◌∷◌, ◌++◌, length, drop, get_or, suc, Option, Some, None, refl, inl, inr, arith, add-one}
use Rattle.std.specs.Char.{digit_value}
use Rattle.std.specs.Int.{IsInRange}
use Rattle.std.specs.Str.Parse.{AllDigits, digits_value_after}
use Rattle.std.proofs.Math.Seq.{drop-cons}
use Rattle.std.proofs.lemmas.Bool.{ne_eqb}
use Rattle.std.proofs.lemmas.Str.{digit_value_digit}
use Rattle.std.proofs.lemmas.Str.Parse.{digit_from_value, digit_at}
use Rattle.sexp_text.specs.NumberTexts.{IsMantissa, point_bytes, behind}
use Rattle.sexp_text.specs.NumberParts.{is_either, IsFree, IsBare}

either_false : (a b c : ℕ) → c ≢ a → c ≢ b → is_either a b c ≡ false
either_false a b c na nb = let ea = ne_eqb c a na in let eb = ne_eqb c b nb in rw (ea, eb) refl

-- digits hold no mark that isn't a digit
pub digits_free : (a b : ℕ) → ((a < 48) ⊎ (57 < a)) → ((b < 48) ⊎ (57 < b)) → (xs : List ℕ) → AllDigits 10 xs → IsFree a b xs
digits_free a b ha hb [] d = tt
digits_free a b ha hb (c ∷ cs) d =
    let r : IsInRange 48 57 c = digit_from_value c d.0 in
    (either_false a b c (λ e. omega arith) (λ e. omega arith), digits_free a b ha hb cs d.1)

free_append : (a b : ℕ) (xs ys : List ℕ) → IsFree a b xs → IsFree a b ys → IsFree a b (xs ++ ys)
free_append a b [] ys f g = g
free_append a b (c ∷ cs) ys f g = (f.0, free_append a b cs ys f.1 g)

-- a mantissa holds no mark of an exponent
pub mantissa_free : (whole : List ℕ) (fraction : Option (List ℕ)) → IsMantissa whole (behind fraction) → IsFree 101 69 (whole ++ point_bytes fraction)
mantissa_free whole None m = free_append 101 69 whole [] (digits_free 101 69 (inr (omega arith)) (inr (omega arith)) whole m.whole_digits) tt
mantissa_free whole (Some f) m = free_append 101 69 whole (46 ∷ f) (digits_free 101 69 (inr (omega arith)) (inr (omega arith)) whole m.whole_digits) (refl, digits_free 101 69 (inr (omega arith)) (inr (omega arith)) f m.fraction_digits)

-- digits begin with no sign
pub digits_bare : (xs : List ℕ) → AllDigits 10 xs → IsBare xs
digits_bare [] d = ((λ e. omega arith), (λ e. omega arith))
digits_bare (c ∷ cs) d = let r : IsInRange 48 57 c = digit_from_value c d.0 in ((λ e. omega arith), (λ e. omega arith))

-- what begins with a mantissa begins with no sign
pub mantissa_bare : (whole : List ℕ) (fraction : Option (List ℕ)) (rest : List ℕ) → IsMantissa whole (behind fraction) → IsBare ((whole ++ point_bytes fraction) ++ rest)
mantissa_bare (c ∷ cs) fraction rest m = let r : IsInRange 48 57 c = digit_from_value c m.whole_digits.0 in ((λ e. omega arith), (λ e. omega arith))
mantissa_bare [] None rest m = absurd (omega (arith, m.some))
mantissa_bare [] (Some f) rest m = ((λ e. omega arith), (λ e. omega arith))

pub after_append : (n : ℕ) (a b : List ℕ) → digits_value_after 10 n (a ++ b) ≡ digits_value_after 10 (digits_value_after 10 n a) b
after_append n [] b = refl
after_append n (c ∷ cs) b = after_append (n * 10 + digit_value c) cs b

-- one digit more
pub after_step : (ds : List ℕ) (i v : ℕ) → i < length ds → AllDigits 10 ds → digits_value_after 10 (v * 10 + (get_or ds i 0 - 48)) (drop (i + 1) ds) ≡ digits_value_after 10 v (drop i ds)
after_step ds i v h d =
    let same : get_or ds i 0 - 48 ≡ digit_value (get_or ds i 0) = omega (arith, digit_value_digit (get_or ds i 0) (digit_at ds i d h)) in
    let cut : drop i ds ≡ get_or ds i 0 ∷ drop (i + 1) ds = rw add-one (drop-cons ds i 0 h) in
    rw (same, cut) refl

-- digits alone hold no point
pub no_point : (xs : List ℕ) → AllDigits 10 xs → IsFree 46 46 xs
no_point xs d = digits_free 46 46 (inl (omega arith)) (inl (omega arith)) xs d

-- bytes from `0` to `9` are digits
pub digits_of_each : (xs : List ℕ) → ((k : ℕ) → k < length xs → (48 ≤ get_or xs k 0) × (get_or xs k 0 ≤ 57)) → AllDigits 10 xs
digits_of_each [] h = tt
digits_of_each (c ∷ cs) h =
    let r : IsInRange 48 57 c = h 0 (omega arith) in
    (omega (arith, digit_value_digit c r), digits_of_each cs (λ k lt. h (suc k) (omega arith)))

pub each_of_digits : (xs : List ℕ) → AllDigits 10 xs → (k : ℕ) → k < length xs → (48 ≤ get_or xs k 0) × (get_or xs k 0 ≤ 57)
each_of_digits xs d k lt = digit_at xs k d lt
