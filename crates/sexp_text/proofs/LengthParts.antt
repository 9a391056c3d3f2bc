-- The parts that the reading of a number text gives are those of the number that is written.
use Rattle.std.proofs.Common.{◌≡◌, ℕ, eqb, Bool, true, false, cond, List, [], ◌∷◌, ◌++◌, length, drop, Option, Some, None, IsSome, refl, sym, ap, ◌∙◌}
use Rattle.std.specs.Str.Parse.{digits_value}
use Rattle.std.proofs.lemmas.Bool.{eqb-true, ne_eqb}
use Rattle.std.proofs.lemmas.List.{append-nil}
use Rattle.sexp_text.specs.declared.number.Sign.{Sign}
use Rattle.sexp_text.specs.declared.number.Sign.TheVariants.{Bare, Plus, Minus}
use Rattle.sexp_text.specs.NumberTexts.{Number, Power, IsNumber, IsMantissa, IsPower, IsPlaces, IsNumberText, sign_bytes, point_bytes, power_bytes, behind, spelling, unsigned_spelling, right_by, left_by, decimal_of}
use Rattle.sexp_text.specs.NumberParts.{IsBare, IsPowerText}
use Rattle.sexp_text.specs.LengthReading.{sign_of, sign_in, behind_sign, cut_in, mantissa_in, places_in, moved, power_in, joined, powered, unsigned_in, decimal_in}
use Rattle.sexp_text.proofs.DigitLists.{digits_bare, mantissa_bare, mantissa_free}
use Rattle.sexp_text.proofs.NumberReadings.{mark_either, plain_number, full_number}
use Rattle.sexp_text.proofs.LengthCuts.{cut_none, cut_is, parts_of, few_to, few_from, mantissa_all, mantissa_some}

-- a sign

abbrev IsSplit : List ℕ → Sign → List ℕ → Type 0
IsSplit text s bare = (sign_in text ≡ s) × (behind_sign text ≡ bare)

split_bare : (bare : List ℕ) → IsBare bare → IsSplit bare Bare bare
unfolding sign_in behind_sign
split_bare [] h = (refl, refl)
split_bare (c ∷ cs) h =
    let plus = ne_eqb c 43 h.0 in
    let minus = ne_eqb c 45 h.1 in
    let bare : sign_of c ≡ Bare = rw (plus, minus) refl in
    (bare, ap (λ (s : Sign). drop (length (sign_bytes s)) (c ∷ cs)) bare)

split_all : (s : Sign) (bare : List ℕ) → IsBare bare → IsSplit (sign_bytes s ++ bare) s bare
unfolding sign_in behind_sign
split_all Bare bare h = split_bare bare h
split_all Plus bare h = (refl, refl)
split_all Minus bare h = (refl, refl)

sign_first : (c : ℕ) (cs : List ℕ) (plus minus : Bool) → eqb c 43 ≡ plus → eqb c 45 ≡ minus → (s : Sign) → cond plus Plus (cond minus Minus Bare) ≡ s → c ∷ cs ≡ sign_bytes s ++ drop (length (sign_bytes s)) (c ∷ cs)
sign_first c cs true minus p q Plus e = ap (λ (x : ℕ). x ∷ cs) (eqb-true c 43 p)
sign_first c cs true minus p q Minus e = absurd cc
sign_first c cs plus minus p q Bare e = refl
sign_first c cs false true p q Minus e = ap (λ (x : ℕ). x ∷ cs) (eqb-true c 45 q)
sign_first c cs false true p q Plus e = absurd cc
sign_first c cs false false p q Plus e = absurd cc
sign_first c cs false false p q Minus e = absurd cc

split_whole : (text : List ℕ) → text ≡ sign_bytes (sign_in text) ++ behind_sign text
unfolding sign_in behind_sign
split_whole [] = refl
split_whole (c ∷ cs) = sign_first c cs _ _ refl refl _ refl

-- an exponent

places_are : (digits : List ℕ) → IsPlaces digits → places_in digits ≡ Some (digits_value 10 digits)
unfolding places_in
places_are digits p = let few = few_to 3 digits p.all p.some p.at_most in rw few refl

split_power : (s : Sign) (text digits : List ℕ) → IsSplit text s digits → IsPlaces digits → power_in text ≡ Some (right_by s (digits_value 10 digits), left_by s (digits_value 10 digits))
unfolding power_in
split_power s text digits split p = let places = places_are digits p in rw (split.0, split.1, places) refl

power_all : (s : Sign) (digits : List ℕ) → IsPlaces digits → power_in (sign_bytes s ++ digits) ≡ Some (right_by s (digits_value 10 digits), left_by s (digits_value 10 digits))
power_all s digits p = split_power s (sign_bytes s ++ digits) digits (split_all s digits (digits_bare digits p.all)) p

some_if : {T : Type 0} (b : Bool) (v : T) → IsSome (cond b (Some v) None) → b ≡ true
some_if true v s = refl
some_if false v s = absurd cc

places_some : (digits : List ℕ) → IsSome (places_in digits) → IsPlaces digits
unfolding places_in
places_some digits s = let h = few_from 3 digits (some_if _ _ s) in record { all = h.0; some = h.1; at_most = h.2 }

some_moved : (sign : Sign) (places : Option ℕ) → IsSome (moved sign places) → IsSome places
some_moved sign None s = absurd cc
some_moved sign (Some n) s = refl

power_some : (text : List ℕ) → IsSome (power_in text) → IsPowerText text
unfolding power_in
power_some text s = (sign_in text, behind_sign text, places_some (behind_sign text) (some_moved (sign_in text) _ s), split_whole text)

-- a number

unsigned_parts : (sign : Sign) (whole : List ℕ) (fraction : Option (List ℕ)) (power : Option Power) → IsMantissa whole (behind fraction) → IsPower power → unsigned_in sign ((whole ++ point_bytes fraction) ++ power_bytes power) ≡ Some (decimal_of (record { sign = sign; whole = whole; fraction = fraction; power = power }))
unfolding unsigned_in
unsigned_parts sign whole fraction None m p =
    let front = whole ++ point_bytes fraction in
    let cut = cut_none 101 69 front (mantissa_free whole fraction m) in
    ap (unsigned_in sign) (append-nil front) ∙ ap (powered sign front) cut ∙ ap (λ (x : Option (ℕ × ℕ)). joined sign x (Some (0, 0))) (mantissa_all whole fraction m)
unsigned_parts sign whole fraction (Some p) m h =
    let front = whole ++ point_bytes fraction in
    let rest = sign_bytes p.sign ++ p.digits in
    let cut = cut_is 101 69 front rest p.mark (mantissa_free whole fraction m) (mark_either p.mark h.0) in
    ap (powered sign (front ++ p.mark ∷ rest)) cut ∙ ap (λ (x : Option (ℕ × ℕ)). joined sign x (power_in rest)) (mantissa_all whole fraction m) ∙ ap (joined sign (Some (digits_value 10 (whole ++ behind fraction), length (behind fraction)))) (power_all p.sign p.digits h.1)

pub decimal_all : (n : Number) → IsNumber n → decimal_in (spelling n) ≡ Some (decimal_of n)
unfolding decimal_in
decimal_all n fine =
    let split = split_all n.sign (unsigned_spelling n) (mantissa_bare n.whole n.fraction (power_bytes n.power) fine.mantissa) in
    ap (λ (s : Sign). unsigned_in s (behind_sign (spelling n))) split.0 ∙ ap (unsigned_in n.sign) split.1 ∙ unsigned_parts n.sign n.whole n.fraction n.power fine.mantissa fine.power

first_some : (sign : Sign) (m p : Option (ℕ × ℕ)) → IsSome (joined sign m p) → IsSome m × IsSome p
first_some sign None p s = absurd cc
first_some sign (Some m) None s = absurd cc
first_some sign (Some m) (Some p) s = (refl, refl)

abbrev IsUnsignedText : Sign → List ℕ → Type 0
IsUnsignedText sign text = (n : Number) × IsNumber n × (n.sign ≡ sign) × (text ≡ unsigned_spelling n)

powered_some : (sign : Sign) (text : List ℕ) (c : Option (List ℕ × List ℕ)) → cut_in 101 69 text ≡ c → IsSome (powered sign text c) → IsUnsignedText sign text
powered_some sign text None e s = plain_number sign text (mantissa_some text (first_some sign _ _ s).0)
powered_some sign text (Some c) e s =
    let both = first_some sign (mantissa_in c.0) (power_in c.1) s in
    full_number sign text c.0 c.1 (parts_of 101 69 text c e) (mantissa_some c.0 both.0) (power_some c.1 both.1)

unsigned_some : (sign : Sign) (text : List ℕ) → IsSome (unsigned_in sign text) → IsUnsignedText sign text
unfolding unsigned_in
unsigned_some sign text s = powered_some sign text _ refl s

pub decimal_some : (text : List ℕ) → IsSome (decimal_in text) → IsNumberText text
unfolding decimal_in
decimal_some text s =
    let h = unsigned_some (sign_in text) (behind_sign text) s in
    (h.0, h.1, split_whole text ∙ ap (λ (x : List ℕ). sign_bytes (sign_in text) ++ x) h.3 ∙ ap (λ (x : Sign). sign_bytes x ++ unsigned_spelling h.0) (sym h.2))
