-- Numbers and coordinates at the front of a line.
use Rattle.std.proofs.Common.{◌≡◌, ◌≢◌, ℕ, suc, ◌-◌, ◌^◌, ◌<◌, ◌≤◌, List, [], ◌∷◌, ◌++◌, length, get_or, Option, Some, None, Result, Ok, Err, refl, sym, ap, ◌∙◌, arith}
use Rattle.std.specs.Prelude.{IfNone, MatchResult, ℤ, decimal}
use Rattle.std.proofs.Math.IntN.{pos, negsuc}
use Rattle.std.specs.Fmt.{signed_decimal}
use Rattle.std.specs.Result.{result_ok}
use Rattle.std.proofs.lemmas.Bool.{eqb-false}
use Rattle.std.proofs.lemmas.Fmt.{decimal_injective, decimal_nonempty}
use Rattle.std.proofs.lemmas.Str.Parse.{not_in_digits}
use Rattle.row_lists.specs.Limits.{coordinate_limit_nm}
use Rattle.session_wire.specs.Words.{IsWord, EndsWord}
use Rattle.session_wire.specs.Numbers.{number_text, IsBetween, IsId, IsSmall}
use Rattle.session_wire.specs.Points.{coordinate_text, IsCoordinate}
use Rattle.session_wire.specs.Parts.{Then, Begins, StopsAt}
use Rattle.session_wire.proofs.Digits.{own, decimal_digits}
use Rattle.session_wire.proofs.WordParts.{word_split}
use Rattle.session_wire.specs.Places.{Continues}
use Rattle.session_wire.proofs.Stops.{some_thing, stops_empty, stops_here, stops_behind}

pub none_then : {X P Q : Type 0} (r : Option X) → IfNone r P → (P → Q) → IfNone r Q
none_then None p f = f p
none_then (Some x) p f = tt

-- what an `Err` says, where `ok` gave nothing
pub err_says : {T E N : Type 0} (P : T → Type 0) (Q : E → Type 0) (r : Result T E) → result_ok r ≡ None → MatchResult r P Q → ((e : E) → Q e → N) → N
err_says P Q (Ok x) none m f = absurd cc
err_says P Q (Err e) none m f = f e m

tail_is : (a b : ℕ) (x y : List ℕ) → a ∷ x ≡ b ∷ y → x ≡ y
tail_is a b x y e = cc

pub no_cons : {a : ℕ} {x : List ℕ} → [] ≢ a ∷ x
no_cons e = absurd cc

word_by_index : (xs : List ℕ) → ((i : ℕ) → i < length xs → get_or xs i 0 ≢ 32) → IsWord xs
word_by_index [] h = tt
word_by_index (x ∷ xs) h = (h 0 (omega arith), word_by_index xs (λ i lt. h (suc i) (omega arith)))

-- digits are a word
pub decimal_word : (n : ℕ) → n < 2 ^ 32 → IsWord (decimal n)
decimal_word n low = word_by_index (decimal n) (not_in_digits own (decimal n) 32 (decimal_digits n low) (λ r. absurd (omega (arith, r))))

pub signed_word : (z : ℤ) → IsCoordinate z → IsWord (signed_decimal z)
signed_word (pos n) low = decimal_word n (omega arith)
signed_word (negsuc n) low = (eqb-false 45 32 refl, decimal_word (suc n) (omega arith))

-- a number and what follows it
pub same_number : (n m : ℕ) (r s : List ℕ) → n < 2 ^ 32 → m < 2 ^ 32 → EndsWord r → EndsWord s → number_text n ++ r ≡ number_text m ++ s → (n ≡ m) × (r ≡ s)
same_number n m r s low short p q e =
    let split = word_split (decimal n) (decimal m) r s (decimal_word n low) (decimal_word m short) p q (tail_is 32 32 _ _ e) in
    (decimal_injective n m (omega arith) (omega arith) split.0, split.1)

minus_first : (ds x : List ℕ) → (get_or ds 0 0 ≡ 45 → ⊥) → ds ≢ 45 ∷ x
minus_first [] x differs e = absurd cc
minus_first (d ∷ ds) x differs e = let here : d ≡ 45 = cc in differs here

-- the digits of a number begin with no minus sign
pub no_minus : (n : ℕ) (x : List ℕ) → n < 2 ^ 32 → decimal n ≢ 45 ∷ x
no_minus n x low = minus_first (decimal n) x (not_in_digits own (decimal n) 45 (decimal_digits n low) (λ r. absurd (omega (arith, r))) 0 (decimal_nonempty n (omega arith)))

-- a word spells one number
pub one_number : (n m : ℕ) (word : List ℕ) → n < 2 ^ 32 → m < 2 ^ 32 → word ≡ decimal n → word ≡ decimal m → n ≡ m
one_number n m word low short e f = decimal_injective n m (omega arith) (omega arith) (sym e ∙ f)

signed_injective : (y z : ℤ) → IsCoordinate y → IsCoordinate z → signed_decimal y ≡ signed_decimal z → y ≡ z
signed_injective (pos n) (pos m) low short e = ap pos (decimal_injective n m (omega arith) (omega arith) e)
signed_injective (pos n) (negsuc m) low short e = absurd (no_minus n (decimal (suc m)) (omega arith) e)
signed_injective (negsuc n) (pos m) low short e = absurd (no_minus m (decimal (suc n)) (omega arith) (sym e))
signed_injective (negsuc n) (negsuc m) low short e =
    let same = decimal_injective (suc n) (suc m) (omega arith) (omega arith) (tail_is 45 45 _ _ e) in
    let equal : n ≡ m = omega (arith, same) in
    ap negsuc equal

-- a coordinate and what follows it
pub same_coordinate : (y z : ℤ) (r s : List ℕ) → IsCoordinate y → IsCoordinate z → EndsWord r → EndsWord s → coordinate_text y ++ r ≡ coordinate_text z ++ s → (y ≡ z) × (r ≡ s)
same_coordinate y z r s low short p q e =
    let split = word_split (signed_decimal y) (signed_decimal z) r s (signed_word y low) (signed_word z short) p q (tail_is 32 32 _ _ e) in
    (signed_injective y z low short split.0, split.1)

some_number : (least most : ℕ) → least ≤ most → Continues (Begins (IsBetween least most) number_text) []
some_number least most some = some_thing (IsBetween least most) number_text least (omega arith, some) refl

-- a line without a word has no number
pub no_number : (least most : ℕ) (line : List ℕ) → least ≤ most → line ≡ [] → StopsAt (Begins (IsBetween least most) number_text) line 0
no_number least most line some e = stops_empty (Begins (IsBetween least most) number_text) line (some_number least most some) (λ is. let (n, r, b) = is in absurd (no_cons b.spelled)) e

-- a word that spells no number
pub bad_number : (least most : ℕ) (line word rest : List ℕ) → least ≤ most → most < 2 ^ 32 → IsWord word → EndsWord rest → line ≡ 32 ∷ (word ++ rest) → ((n : ℕ) → IsBetween least most n → word ≡ decimal n → ⊥) → StopsAt (Begins (IsBetween least most) number_text) line (length line - 1)
bad_number least most line word rest some low whole ends e none = stops_here (Begins (IsBetween least most) number_text) line word rest (some_number least most some) whole ends e
    (λ t end is.
    let (n, r, b) = is in
    none n b.formed (word_split word (decimal n) t r whole (decimal_word n (omega (arith, b.formed.1))) end b.ends (tail_is 32 32 _ _ b.spelled)).0)

some_coordinate : Continues (Begins IsCoordinate coordinate_text) []
some_coordinate = some_thing IsCoordinate coordinate_text (pos 0) (omega arith) refl

-- a line without a word has no coordinate
pub no_coordinate : (line : List ℕ) → line ≡ [] → StopsAt (Begins IsCoordinate coordinate_text) line 0
no_coordinate line e = stops_empty (Begins IsCoordinate coordinate_text) line some_coordinate (λ is. let (z, r, b) = is in absurd (no_cons b.spelled)) e

-- a word that spells no coordinate
pub bad_coordinate : (line word rest : List ℕ) → IsWord word → EndsWord rest → line ≡ 32 ∷ (word ++ rest) → ((z : ℤ) → IsCoordinate z → word ≡ signed_decimal z → ⊥) → StopsAt (Begins IsCoordinate coordinate_text) line (length line - 1)
bad_coordinate line word rest whole ends e none = stops_here (Begins IsCoordinate coordinate_text) line word rest some_coordinate whole ends e
    (λ t end is.
    let (z, r, b) = is in
    none z b.formed (word_split word (signed_decimal z) t r whole (signed_word z b.formed) end b.ends (tail_is 32 32 _ _ b.spelled)).0)

-- a coordinate below 0 has a minus sign, and one from 0 on has none
pub negative_none : (digits : List ℕ) → ((n : ℕ) → IsBetween 1 coordinate_limit_nm n → digits ≡ decimal n → ⊥) → (z : ℤ) → IsCoordinate z → 45 ∷ digits ≡ signed_decimal z → ⊥
negative_none digits none (pos n) low e = no_minus n digits (omega arith) (sym e)
negative_none digits none (negsuc n) low e = none (suc n) (omega arith, omega arith) (tail_is 45 45 _ _ e)

-- the numbers of items, as numbers between two bounds
id_between : (n : ℕ) → IsBetween 0 4294967295 n → IsId n
id_between n f = omega (arith, f.1)

between_id : (n : ℕ) → IsId n → IsBetween 0 4294967295 n
between_id n f = (omega arith, omega arith)

pub id_then : (line : List ℕ) (n : ℕ) (rest : List ℕ) → Then (IsBetween 0 4294967295) number_text line n rest → Then IsId number_text line n rest
id_then line n rest a = record { formed = id_between n a.formed; ends = a.ends; spelled = a.spelled }

pub id_stops : (line : List ℕ) (left : ℕ) → EndsWord line → StopsAt (Begins (IsBetween 0 4294967295) number_text) line left → StopsAt (Begins IsId number_text) line left
id_stops line left ends = stops_behind (Begins IsId number_text) (Begins (IsBetween 0 4294967295) number_text) line [] line left refl ends
    (λ t end is. let (n, r, b) = is in (n, r, id_then t n r b))
    (λ t end is. let (n, r, b) = is in (n, r, record { formed = between_id n b.formed; ends = b.ends; spelled = b.spelled }))

-- the numbers of a boundary's layers and clients, as numbers between two bounds
pub small_stops : (line : List ℕ) (left : ℕ) → EndsWord line → StopsAt (Begins (IsBetween 0 255) number_text) line left → StopsAt (Begins IsSmall number_text) line left
small_stops line left ends = stops_behind (Begins IsSmall number_text) (Begins (IsBetween 0 255) number_text) line [] line left refl ends
    (λ t end is. let (n, r, b) = is in (n, r, record { formed = omega (arith, b.formed.1); ends = b.ends; spelled = b.spelled }))
    (λ t end is. let (n, r, b) = is in (n, r, record { formed = (omega arith, omega (arith, b.formed)); ends = b.ends; spelled = b.spelled }))
