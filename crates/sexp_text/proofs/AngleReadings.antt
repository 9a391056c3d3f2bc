-- A text that spells a number has the angle of that number, and a number has one angle.
use Rattle.std.proofs.Common.{◌≡◌, ◌≢◌, ℕ, suc, zero, ◌+◌, ◌-◌, ◌*◌, ◌/◌, ◌%◌, ◌^◌, ◌<◌, ◌≤◌, Bool, true, false, cond, List, Option, Some, None, IsSome, IfNone, Result, Ok, Err, refl, sym, ap, subst, ◌∙◌, arith, eqb}
use Rattle.std.specs.Prelude.{leb, ◌&&◌}
use Rattle.std.proofs.Math.Nat.{one-le-pow, mod-lt, mod-add-div', mul-div_cancel, mul-mod_left, mul-le-mul, mul_comm}
use Rattle.std.proofs.lemmas.Bool.{leb-true, leb-false, eqb-true, eqb-false}
use Rattle.sexp_text.specs.declared.angle_fault.AngleFault.{AngleFault}
use Rattle.sexp_text.specs.declared.angle_fault.AngleFault.TheVariants.{NotNumber, NotAngle}
use Rattle.sexp_text.specs.declared.number.Sign.{Sign}
use Rattle.sexp_text.specs.declared.number.Sign.TheVariants.{Bare, Plus, Minus}
use Rattle.sexp_text.specs.declared.number.Decimal.{Decimal}
use Rattle.sexp_text.specs.NumberTexts.{Number, IsNumber, IsNumberText, spelling, decimal_of}
use Rattle.sexp_text.specs.Angles.{IsTimes, IsTurn, IsAngle, IsAngleUnless}
use Rattle.sexp_text.specs.AngleReading.{eighths_of, angle_by, angle_in}
use Rattle.sexp_text.specs.LengthReading.{decimal_in}
use Rattle.sexp_text.proofs.Roundings.{room_of}
use Rattle.sexp_text.proofs.LengthParts.{decimal_all, decimal_some}

-- multiples

some_unit : (unit places : ℕ) → 0 < unit → 0 < unit * 10 ^ places
some_unit unit places h = omega (arith, mul-le-mul h (one-le-pow places 10 (omega arith)))

grouped : (unit k q : ℕ) → unit * k * q ≡ k * (unit * q)
grouped unit k q = omega arith

multiple_of : (number one : ℕ) → number % one ≡ 0 → number ≡ number / one * one
multiple_of number one e = omega (arith, mod-add-div' number one)

rest_none : (number one k : ℕ) → number ≡ k * one → number % one ≡ 0
rest_none number one k e = ap (λ (x : ℕ). x % one) e ∙ mul-mod_left k one

times_is : (number one k : ℕ) → 0 < one → number ≡ k * one → number / one ≡ k
times_is number one k h e = ap (λ (x : ℕ). x / one) e ∙ mul-div_cancel k h

-- at most one multiple of a unit fits
pub one_count : (d : Decimal) (unit k l : ℕ) → 0 < unit → IsTimes d unit k → IsTimes d unit l → k ≡ l
one_count d unit k l h a b =
    let places = d.left - d.right in
    let one = unit * 10 ^ places in
    let some = some_unit unit places h in
    sym (times_is _ one k some (a ∙ grouped unit k (10 ^ places))) ∙ times_is _ one l some (b ∙ grouped unit l (10 ^ places))

-- 45 times a count, in degrees
degrees_of : (d : Decimal) (k : ℕ) → IsTimes d 45 k → IsTimes d 1 (45 * k)
degrees_of d k e = let same : 1 * (45 * k) * 10 ^ (d.left - d.right) ≡ 45 * k * 10 ^ (d.left - d.right) = omega arith in e ∙ sym same

pub same_degrees : (d : Decimal) (degrees k : ℕ) → IsTimes d 1 degrees → IsTimes d 45 k → degrees ≡ 45 * k
same_degrees d degrees k a b = one_count d 1 degrees (45 * k) (omega arith) a (degrees_of d k b)

-- no count where there are no whole degrees
pub none_whole : (d : Decimal) → ((v : ℕ) → v ≤ 3600 → IsTimes d 1 v → ⊥) → (k : ℕ) → k ≤ 80 → IsTimes d 45 k → ⊥
none_whole d none k few e = none (45 * k) (omega arith) (degrees_of d k e)

-- the same of what is answered there
pub none_either : (r : Option ℕ) (P : Type 0) → P → IfNone r P
none_either (Some v) P h = tt
none_either None P h = h

-- none where 45 leaves a rest
pub none_rest : (d : Decimal) (degrees : ℕ) → degrees % 45 ≢ 0 → IsTimes d 1 degrees → (k : ℕ) → k ≤ 80 → IsTimes d 45 k → ⊥
none_rest d degrees rest whole k few e = let same = same_degrees d degrees k whole e in absurd (rest (rest_none degrees 45 k (same ∙ mul_comm 45 k)))

-- and none where the degrees are too many
pub none_few : (d : Decimal) (degrees : ℕ) → 80 < degrees / 45 → IsTimes d 1 degrees → (k : ℕ) → k ≤ 80 → IsTimes d 45 k → ⊥
none_few d degrees many whole k few e =
    let same = same_degrees d degrees k whole e in
    let count = times_is degrees 45 k (omega arith) (same ∙ mul_comm 45 k) in
    omega arith

-- a point so far to the left leaves nothing whole but 0
pub none_far : (number places : ℕ) → number ≢ 0 → number < 10 ^ 30 → 30 ≤ places → (v : ℕ) → number ≡ v * 10 ^ places → ⊥
none_far number places some small far zero e = absurd (some (omega arith))
none_far number places some small far (suc v) e =
    let big : 10 ^ 30 ≤ 10 ^ places = room_of 30 places far in
    let more : suc v * 10 ^ places ≡ v * 10 ^ places + 10 ^ places = omega arith in
    absurd (omega arith)

-- turns

pub turn_is : (sign : Sign) (k : ℕ) → IsTurn sign k (eighths_of sign k)
turn_is Bare k = (k / 8, omega (arith, mod-add-div' k 8))
turn_is Plus k = (k / 8, omega (arith, mod-add-div' k 8))
turn_is Minus k = (k - 7 * k / 8, omega (arith, mod-add-div' (7 * k) 8, mod-lt (7 * k) {m = 8} (omega arith)))

pub turn_back : (sign : Sign) (k : ℕ) → sign ≡ Minus → IsTurn sign k (7 * k % 8)
turn_back sign k e = subst (λ (s : Sign). IsTurn s k (7 * k % 8)) (sym e) (turn_is Minus k)

pub turn_on : (sign : Sign) (k : ℕ) → sign ≢ Minus → IsTurn sign k (k % 8)
turn_on Bare k other = turn_is Bare k
turn_on Plus k other = turn_is Plus k
turn_on Minus k other = absurd (other refl)

pub turn_bound : (sign : Sign) (k : ℕ) → eighths_of sign k < 8
turn_bound Bare k = mod-lt k (omega arith)
turn_bound Plus k = mod-lt k (omega arith)
turn_bound Minus k = mod-lt (7 * k) (omega arith)

-- at most one place is so many eighths away
pub one_turn : (sign : Sign) (k e f : ℕ) → e < 8 → f < 8 → IsTurn sign k e → IsTurn sign k f → e ≡ f
one_turn Bare k e f h i (m, p) (n, q) = omega arith
one_turn Plus k e f h i (m, p) (n, q) = omega arith
one_turn Minus k e f h i (m, p) (n, q) = omega arith

-- the angle of a number

angle_is : (n : Number) (whole few : Bool) →
    let d = decimal_of n in
    let number = d.digits * 10 ^ (d.right - d.left) in
    let one = 45 * 10 ^ (d.left - d.right) in
    eqb (number % one) 0 ≡ whole → leb (number / one) 80 ≡ few → IsAngle n (cond (whole && few) (Ok (eighths_of n.sign (number / one))) (Err NotAngle))
angle_is n true true p q =
    let d = decimal_of n in
    let number = d.digits * 10 ^ (d.right - d.left) in
    let places = d.left - d.right in
    let k = number / (45 * 10 ^ places) in
    (k, multiple_of number _ (eqb-true _ _ p) ∙ sym (grouped 45 k (10 ^ places)), leb-true _ _ q, turn_is n.sign k, turn_bound n.sign k)
angle_is n true false p q = λ k few e.
    let d = decimal_of n in
    let places = d.left - d.right in
    let same = times_is _ (45 * 10 ^ places) k (some_unit 45 places (omega arith)) (e ∙ grouped 45 k (10 ^ places)) in
    let many = leb-false _ _ q in
    absurd (omega arith)
angle_is n false few p q = λ k small e.
    let d = decimal_of n in
    let places = d.left - d.right in
    let none = rest_none _ (45 * 10 ^ places) k (e ∙ grouped 45 k (10 ^ places)) in
    absurd (eqb-false _ _ p none)

spelled_is : (n : Number) → IsNumber n → IsAngle n (angle_in (spelling n))
unfolding angle_in
spelled_is n fine =
    let d = decimal_of n in
    let same : angle_by (decimal_in (spelling n)) ≡ angle_by (Some d) = ap angle_by (decimal_all n fine) in
    subst (IsAngle n) (sym same) (angle_is n _ _ refl refl)

-- a text that spells a number has its angle
pub reads_angle : (text : List ℕ) (n : Number) → IsNumber n → text ≡ spelling n → IsAngle n (angle_in text)
reads_angle text n fine e = subst (λ (x : List ℕ). IsAngle n (angle_in x)) (sym e) (spelled_is n fine)

unless_cond : (text : List ℕ) (e : ℕ) (fits : Bool) → IsNumberText text → IsAngleUnless text (cond fits (Ok e) (Err NotAngle))
unless_cond text e true number = number
unless_cond text e false number = number

unless_by : (text : List ℕ) (d : Option Decimal) → (IsSome d → IsNumberText text) → IsAngleUnless text (angle_by d)
unless_by text None h = tt
unless_by text (Some d) h = unless_cond text _ _ (h refl)

-- and any other text is no number
pub reads_number : (text : List ℕ) → IsAngleUnless text (angle_in text)
unfolding angle_in
reads_number text = unless_by text (decimal_in text) (decimal_some text)

-- a number has one angle
pub one_angle : (n : Number) (r s : Result ℕ AngleFault) → IsAngle n r → IsAngle n s → r ≡ s
one_angle n (Ok e) (Ok f) a b =
    let same = one_count (decimal_of n) 45 a.0 b.0 (omega arith) a.1 b.1 in
    ap Ok (one_turn n.sign b.0 e f a.4 b.4 (subst (λ (k : ℕ). IsTurn n.sign k e) same a.3) b.3)
one_angle n (Ok e) (Err NotAngle) a b = absurd (b a.0 a.2 a.1)
one_angle n (Err NotAngle) (Ok f) a b = absurd (a b.0 b.2 b.1)
one_angle n (Err NotAngle) (Err NotAngle) a b = refl
one_angle n (Ok e) (Err NotNumber) a b = absurd b
one_angle n (Err NotAngle) (Err NotNumber) a b = absurd b
one_angle n (Err NotNumber) s a b = absurd a
