-- What the parts of a number say of the number.
use Rattle.std.proofs.Common.{◌≡◌, ℕ, ◌+◌, Bool, true, false, ◌⊎◌, ◌||◌, List, [], ◌∷◌, ◌++◌, length, Option, Some, None, IsSome, SomeIff, refl, sym, ap, ◌∙◌, inl, inr, arith}
use Rattle.std.specs.Str.Parse.{digits_value}
use Rattle.std.proofs.lemmas.Bool.{eqb-true}
use Rattle.std.proofs.lemmas.List.{append-nil}
use Rattle.sexp_text.specs.declared.number.Sign.{Sign}
use Rattle.sexp_text.specs.declared.number.Decimal.{Decimal}
use Rattle.sexp_text.specs.NumberTexts.{Number, Power, IsNumber, IsMantissa, IsPower, IsPlaces, sign_bytes, point_bytes, power_bytes, behind, unsigned_spelling, right_of, left_of, decimal_of}
use Rattle.sexp_text.specs.NumberParts.{is_either, IsFree, IsPowerText}
use Rattle.sexp_text.proofs.DigitLists.{no_point}

pub some_of : {T : Type 0} (r : Option T) (P : Type 0) (v : T) → SomeIff r P v → P → r ≡ Some v
some_of None P v h p = absurd (h p)
some_of (Some x) P v h p = ap Some h.1

pub holds_of : {T : Type 0} (r : Option T) (P : Type 0) (v : T) → SomeIff r P v → IsSome r → P
holds_of None P v h s = absurd cc
holds_of (Some x) P v h s = h.0

one_of : {A B : Type 0} (s t : Bool) → (s ≡ true → A) → (t ≡ true → B) → (s || t) ≡ true → A ⊎ B
one_of true t f g e = inl (f refl)
one_of false t f g e = inr (g e)

pub either_true : (a b c : ℕ) → is_either a b c ≡ true → (c ≡ a) ⊎ (c ≡ b)
either_true a b c e = one_of _ _ (eqb-true c a) (eqb-true c b) e

pub mark_either : (m : ℕ) → (m ≡ 101) ⊎ (m ≡ 69) → is_either 101 69 m ≡ true
mark_either m h = elim h [ inl e ↦ rw e refl | inr e ↦ rw e refl ]

pub is_point : (m : ℕ) → is_either 46 46 m ≡ true → m ≡ 46
is_point m h = elim (either_true 46 46 m h) [ inl e ↦ e | inr e ↦ e ]

-- a mantissa without a point
pub mantissa_whole : (r : Option (ℕ × ℕ)) (text whole : List ℕ) (fraction : Option (List ℕ)) → SomeIff r (IsMantissa text []) (digits_value 10 (text ++ []), 0) → ((front rest : List ℕ) (m : ℕ) → IsFree 46 46 front → is_either 46 46 m ≡ true → text ≡ front ++ m ∷ rest → ⊥) → IsMantissa whole (behind fraction) → text ≡ whole ++ point_bytes fraction → r ≡ Some (digits_value 10 (whole ++ behind fraction), length (behind fraction))
mantissa_whole r text whole None h found m e = let same : text ≡ whole = e ∙ append-nil whole in some_of r _ _ (rw same at h) m
mantissa_whole r text whole (Some f) h found m e = absurd (found whole f 46 (no_point whole m.whole_digits) refl e)

-- a mantissa that is cut at its point
pub mantissa_cut : (r : Option (ℕ × ℕ)) (text w f whole : List ℕ) (fraction : Option (List ℕ)) → SomeIff r (IsMantissa w f) (digits_value 10 (w ++ f), length f) → ((front rest : List ℕ) (m : ℕ) → IsFree 46 46 front → is_either 46 46 m ≡ true → text ≡ front ++ m ∷ rest → (w ≡ front) × (f ≡ rest)) → (IsFree 46 46 text → true ≡ false) → IsMantissa whole (behind fraction) → text ≡ whole ++ point_bytes fraction → r ≡ Some (digits_value 10 (whole ++ behind fraction), length (behind fraction))
mantissa_cut r text w f whole None h found none m e =
    let same : text ≡ whole = e ∙ append-nil whole in
    let never : true ≡ false = none (rw same (no_point whole m.whole_digits)) in
    absurd cc
mantissa_cut r text w f whole (Some g) h found none m e =
    let k = found whole g 46 (no_point whole m.whole_digits) refl e in
    some_of r _ _ (rw (k.0, k.1) at h) m

pub mantissa_parts : (r : Option (ℕ × ℕ)) (text w f : List ℕ) (v : ℕ × ℕ) → SomeIff r (IsMantissa w f) v → IsSome r → (m : ℕ) × (is_either 46 46 m ≡ true) × (text ≡ w ++ m ∷ f) → (whole : List ℕ) × (fraction : Option (List ℕ)) × IsMantissa whole (behind fraction) × (text ≡ whole ++ point_bytes fraction)
mantissa_parts r text w f v h s parts =
    let point : parts.0 ≡ 46 = is_point parts.0 parts.1 in
    (w, Some f, holds_of r _ v h s, rw point at parts.2)

-- a text without the mark of an exponent has none
pub no_power : (text front : List ℕ) (power : Option Power) → IsFree 101 69 front → IsPower power → ((f rest : List ℕ) (m : ℕ) → IsFree 101 69 f → is_either 101 69 m ≡ true → text ≡ f ++ m ∷ rest → ⊥) → text ≡ front ++ power_bytes power → (power ≡ None) × (text ≡ front)
no_power text front None free fine found e = (refl, e ∙ append-nil front)
no_power text front (Some p) free fine found e = absurd (found front (sign_bytes p.sign ++ p.digits) p.mark free (mark_either p.mark fine.0) e)

-- a text that is cut at the mark of an exponent has one
pub some_power : (text before later front : List ℕ) (power : Option Power) → IsFree 101 69 front → IsPower power → ((f rest : List ℕ) (m : ℕ) → IsFree 101 69 f → is_either 101 69 m ≡ true → text ≡ f ++ m ∷ rest → (before ≡ f) × (later ≡ rest)) → (IsFree 101 69 text → true ≡ false) → text ≡ front ++ power_bytes power → (p : Power) × (power ≡ Some p) × IsPlaces p.digits × (before ≡ front) × (later ≡ sign_bytes p.sign ++ p.digits)
some_power text before later front None free fine found none e =
    let same : text ≡ front = e ∙ append-nil front in
    let never : true ≡ false = none (rw same free) in
    absurd cc
some_power text before later front (Some p) free fine found none e =
    let k = found front (sign_bytes p.sign ++ p.digits) p.mark free (mark_either p.mark fine.0) e in
    (p, refl, fine.1, k.0, k.1)

abbrev pub decimal : Sign → ℕ → ℕ → ℕ → Decimal
decimal sign digits right left = record { sign = sign; digits = digits; right = right; left = left }

same_decimal : (s t : Sign) (a b c d e f : ℕ) → s ≡ t → a ≡ b → c ≡ d → e ≡ f → decimal s a c e ≡ decimal t b d f
same_decimal s t a b c d e f p q r u = rw (p, q, r, u) refl

abbrev pub two : ℕ → ℕ → Option (ℕ × ℕ)
two a b = Some (a, b)

same_pair : (x y : ℕ × ℕ) → Some x ≡ Some y → x ≡ y
same_pair x y e = cc

first_of : (a b c d : ℕ) → two a b ≡ two c d → a ≡ c
first_of a b c d e = ap (λ (p : ℕ × ℕ). p.0) (same_pair (a, b) (c, d) e)

second_of : (a b c d : ℕ) → two a b ≡ two c d → b ≡ d
second_of a b c d e = ap (λ (p : ℕ × ℕ). p.1) (same_pair (a, b) (c, d) e)

pub plain_is : (sign : Sign) (n : Number) (digits left : ℕ) → n.sign ≡ sign → n.power ≡ None → two digits left ≡ two (digits_value 10 (n.whole ++ behind n.fraction)) (length (behind n.fraction)) → Some (decimal sign digits 0 left) ≡ Some (decimal_of n)
plain_is sign n digits left s none m =
    let right : 0 ≡ right_of n.power = sym (ap right_of none) in
    let more : left_of n.power ≡ 0 = ap left_of none in
    let all : left ≡ length (behind n.fraction) + left_of n.power = omega (arith, second_of _ _ _ _ m) in
    ap Some (same_decimal _ _ _ _ _ _ _ _ (sym s) (first_of _ _ _ _ m) right all)

pub full_is : (sign : Sign) (n : Number) (p : Power) (digits after right left : ℕ) → n.sign ≡ sign → n.power ≡ Some p → two digits after ≡ two (digits_value 10 (n.whole ++ behind n.fraction)) (length (behind n.fraction)) → two right left ≡ two (right_of (Some p)) (left_of (Some p)) → Some (decimal sign digits right (after + left)) ≡ Some (decimal_of n)
full_is sign n p digits after right left s some m q =
    let up : right ≡ right_of n.power = first_of _ _ _ _ q ∙ sym (ap right_of some) in
    let down : left ≡ left_of n.power = second_of _ _ _ _ q ∙ sym (ap left_of some) in
    let all : after + left ≡ length (behind n.fraction) + left_of n.power = omega (arith, second_of _ _ _ _ m) in
    ap Some (same_decimal _ _ _ _ _ _ _ _ (sym s) (first_of _ _ _ _ m) up all)

pub plain_number : (sign : Sign) (text : List ℕ) → (whole : List ℕ) × (fraction : Option (List ℕ)) × IsMantissa whole (behind fraction) × (text ≡ whole ++ point_bytes fraction) → (n : Number) × IsNumber n × (n.sign ≡ sign) × (text ≡ unsigned_spelling n)
plain_number sign text h =
    let n : Number = record { sign = sign; whole = h.0; fraction = h.1; power = None } in
    (n, record { mantissa = h.2; power = tt }, refl, h.3 ∙ sym (append-nil _))

pub full_number : (sign : Sign) (text before later : List ℕ) → (m : ℕ) × (is_either 101 69 m ≡ true) × (text ≡ before ++ m ∷ later) → (whole : List ℕ) × (fraction : Option (List ℕ)) × IsMantissa whole (behind fraction) × (before ≡ whole ++ point_bytes fraction) → IsPowerText later → (n : Number) × IsNumber n × (n.sign ≡ sign) × (text ≡ unsigned_spelling n)
full_number sign text before later parts h q =
    let p : Power = record { mark = parts.0; sign = q.0; digits = q.1 } in
    let n : Number = record { sign = sign; whole = h.0; fraction = h.1; power = Some p } in
    (n, record { mantissa = h.2; power = (either_true 101 69 parts.0 parts.1, q.2) }, refl, rw (h.3, q.3) at parts.2)
