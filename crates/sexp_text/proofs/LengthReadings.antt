-- A text that spells a number has the length of that number, and a number has one length.
use Rattle.std.proofs.Common.{◌≡◌, ℕ, ℤ, ◌-◌, ◌*◌, ◌^◌, Bool, true, false, cond, List, Option, Some, None, IsSome, Result, Ok, Err, refl, sym, ap, subst, ◌∙◌, arith}
use Rattle.std.specs.Prelude.{leb}
use Rattle.std.proofs.Math.Nat.{one-le-pow}
use Rattle.std.proofs.lemmas.Bool.{leb-true, leb-false}
use Rattle.sexp_text.specs.declared.units.Unit.{Unit}
use Rattle.sexp_text.specs.declared.num_fault.NumFault.{NumFault}
use Rattle.sexp_text.specs.declared.num_fault.NumFault.TheVariants.{NotNumber, Range}
use Rattle.sexp_text.specs.declared.number.Sign.{Sign}
use Rattle.sexp_text.specs.declared.number.Decimal.{Decimal}
use Rattle.sexp_text.specs.NumberTexts.{Number, IsNumber, IsNumberText, spelling, decimal_of}
use Rattle.sexp_text.specs.Lengths.{nanometres_of, IsSize, IsLength, IsNumberUnless, signed}
use Rattle.sexp_text.specs.LengthReading.{nearest_to, size_in, decimal_in, limited, length_by, length_in}
use Rattle.sexp_text.proofs.Roundings.{nearest_quotient, nearest_whole, one_nearest}
use Rattle.sexp_text.proofs.LengthParts.{decimal_all, decimal_some}

-- the size of a decimal

abbrev sized : ℕ → Decimal → Bool → ℕ
sized per_unit d right = cond right (d.digits * per_unit * 10 ^ (d.right - d.left)) (nearest_to (d.digits * per_unit) (10 ^ (d.left - d.right)))

sized_is : (per_unit : ℕ) (d : Decimal) (right : Bool) → leb d.left d.right ≡ right → IsSize d per_unit (sized per_unit d right)
unfolding nearest_to
sized_is per_unit d true e =
    let le = leb-true d.left d.right e in
    let none : d.left - d.right ≡ 0 = omega arith in
    rw none (nearest_whole _)
sized_is per_unit d false e =
    let lt = leb-false d.left d.right e in
    let none : d.right - d.left ≡ 0 = omega arith in
    let whole : d.digits * per_unit * 10 ^ 0 ≡ d.digits * per_unit = omega arith in
    rw (none, whole) (nearest_quotient (d.digits * per_unit) (10 ^ (d.left - d.right)) (one-le-pow (d.left - d.right) 10 (omega arith)))

size_is : (per_unit : ℕ) (d : Decimal) → IsSize d per_unit (size_in per_unit d)
unfolding size_in
size_is per_unit d = sized_is per_unit d _ refl

-- the length of a number

limited_is : (n : Number) (per_unit k : ℕ) (few : Bool) → leb k 1000000000 ≡ few → IsSize (decimal_of n) per_unit k → IsLength n per_unit (cond few (Ok (signed n.sign k)) (Err Range))
limited_is n per_unit k true e size = (k, size, leb-true k 1000000000 e, refl)
limited_is n per_unit k false e size = let lt = leb-false k 1000000000 e in (k, size, omega arith)

spelled_is : (unit : Unit) (n : Number) → IsNumber n → IsLength n (nanometres_of unit) (length_in unit (spelling n))
unfolding length_in
spelled_is unit n fine =
    let per_unit = nanometres_of unit in
    let d = decimal_of n in
    let read = decimal_all n fine in
    let same : length_by per_unit (decimal_in (spelling n)) ≡ limited n.sign (size_in per_unit d) = ap (length_by per_unit) read in
    subst (IsLength n per_unit) (sym same) (limited_is n per_unit (size_in per_unit d) _ refl (size_is per_unit d))

-- a text that spells a number has its length
pub reads_length : (unit : Unit) (text : List ℕ) (n : Number) → IsNumber n → text ≡ spelling n → IsLength n (nanometres_of unit) (length_in unit text)
reads_length unit text n fine e = subst (λ (x : List ℕ). IsLength n (nanometres_of unit) (length_in unit x)) (sym e) (spelled_is unit n fine)

unless_limited : (text : List ℕ) (sign : Sign) (k : ℕ) (few : Bool) → IsNumberText text → IsNumberUnless text (cond few (Ok (signed sign k)) (Err Range))
unless_limited text sign k true number = number
unless_limited text sign k false number = number

unless_by : (per_unit : ℕ) (text : List ℕ) (d : Option Decimal) → (IsSome d → IsNumberText text) → IsNumberUnless text (length_by per_unit d)
unless_by per_unit text None h = tt
unless_by per_unit text (Some d) h = unless_limited text d.sign (size_in per_unit d) _ (h refl)

-- and any other text is no number
pub reads_number : (unit : Unit) (text : List ℕ) → IsNumberUnless text (length_in unit text)
unfolding length_in
reads_number unit text = unless_by (nanometres_of unit) text (decimal_in text) (decimal_some text)

-- a number has one length
pub one_length : (n : Number) (per_unit : ℕ) (r s : Result ℤ NumFault) → IsLength n per_unit r → IsLength n per_unit s → r ≡ s
one_length n per_unit (Ok y) (Ok z) a b =
    let same = one_nearest _ _ a.0 b.0 a.1 b.1 in
    ap Ok (a.3 ∙ ap (signed n.sign) same ∙ sym b.3)
one_length n per_unit (Ok y) (Err Range) a b =
    let same = one_nearest _ _ a.0 b.0 a.1 b.1 in
    let few = a.2 in
    let many = b.2 in
    absurd (omega arith)
one_length n per_unit (Err Range) (Ok z) a b =
    let same = one_nearest _ _ a.0 b.0 a.1 b.1 in
    let many = a.2 in
    let few = b.2 in
    absurd (omega arith)
one_length n per_unit (Err Range) (Err Range) a b = refl
one_length n per_unit (Ok y) (Err NotNumber) a b = absurd b
one_length n per_unit (Err Range) (Err NotNumber) a b = absurd b
one_length n per_unit (Err NotNumber) s a b = absurd a
