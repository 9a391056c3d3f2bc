-- The length that a text states is the one that its parts state, both ways, and it is bounded.
use Rattle.std.proofs.Common.{◌≡◌, ℕ, ℤ, pos, negsuc, neg_ℤ, suc, zero, ◌^◌, ◌≤◌, ◌↔◌, List, Result, Ok, Err, IfOk, refl, sym, ap, subst, ◌∙◌, arith}
use Rattle.std.specs.Prelude.{unsigned_abs, FitsSigned, ◌≤ℤ◌, ◌<ℤ◌}
use Rattle.std.specs.Int.{w32}
use Rattle.std.proofs.lemmas.Int.{ints, fits_signed_from_abs}
use Rattle.sexp_text.specs.declared.units.Unit.{Unit}
use Rattle.sexp_text.specs.declared.num_fault.NumFault.{NumFault}
use Rattle.sexp_text.specs.declared.num_fault.NumFault.TheVariants.{NotNumber, Range}
use Rattle.sexp_text.specs.declared.number.Sign.{Sign}
use Rattle.sexp_text.specs.declared.number.Sign.TheVariants.{Bare, Plus, Minus}
use Rattle.sexp_text.specs.NumberTexts.{Number, IsNumber, IsNumberText, spelling}
use Rattle.sexp_text.specs.Lengths.{nanometres_of, IsLength, IsNumberUnless, signed}
use Rattle.sexp_text.specs.LengthReading.{length_in}
use Rattle.sexp_text.proofs.LengthReadings.{reads_length, reads_number, one_length}

-- the text spells a number that has this length
abbrev pub HasLength : Unit → List ℕ → Result ℤ NumFault → Type 0
HasLength unit text r = (n : Number) × IsNumber n × (text ≡ spelling n) × IsLength n (nanometres_of unit) r

-- each number that the text spells has this length
abbrev pub EachLength : Unit → List ℕ → Result ℤ NumFault → Type 0
EachLength unit text r = (n : Number) → IsNumber n → text ≡ spelling n → IsLength n (nanometres_of unit) r

same_reading : (unit : Unit) (text : List ℕ) (r s : Result ℤ NumFault) → EachLength unit text r → IsNumberUnless text r → EachLength unit text s → IsNumberUnless text s → r ≡ s
same_reading unit text (Ok z) s f number g other = one_length number.0 _ _ _ (f number.0 number.1 number.2) (g number.0 number.1 number.2)
same_reading unit text (Err Range) s f number g other = one_length number.0 _ _ _ (f number.0 number.1 number.2) (g number.0 number.1 number.2)
same_reading unit text (Err NotNumber) (Ok z) f number g other = absurd (f other.0 other.1 other.2)
same_reading unit text (Err NotNumber) (Err Range) f number g other = absurd (f other.0 other.1 other.2)
same_reading unit text (Err NotNumber) (Err NotNumber) f number g other = refl

-- only the reading has each number's length and is `NotNumber` where there is none
pub only_reading : (unit : Unit) (text : List ℕ) (r : Result ℤ NumFault) → EachLength unit text r → IsNumberUnless text r → r ≡ length_in unit text
only_reading unit text r f number = same_reading unit text r (length_in unit text) f number (reads_length unit text) (reads_number unit text)

-- the laws, both ways

has_of : (unit : Unit) (text : List ℕ) (r : Result ℤ NumFault) → length_in unit text ≡ r → IsNumberText text → HasLength unit text r
has_of unit text r e number =
    let own = reads_length unit text number.0 number.1 number.2 in
    (number.0, number.1, number.2, subst (IsLength number.0 (nanometres_of unit)) e own)

of_has : (unit : Unit) (text : List ℕ) (r : Result ℤ NumFault) → HasLength unit text r → length_in unit text ≡ r
of_has unit text r h = one_length h.0 _ _ _ (reads_length unit text h.0 h.1 h.2) h.3

pub ok_iff : (unit : Unit) (text : List ℕ) (z : ℤ) → (length_in unit text ≡ Ok z) ↔ HasLength unit text (Ok z)
ok_iff unit text z = ((λ e. has_of unit text (Ok z) e (subst (IsNumberUnless text) e (reads_number unit text))), (λ h. of_has unit text (Ok z) h))

pub range_iff : (unit : Unit) (text : List ℕ) → (length_in unit text ≡ Err Range) ↔ HasLength unit text (Err Range)
range_iff unit text = ((λ e. has_of unit text (Err Range) e (subst (IsNumberUnless text) e (reads_number unit text))), (λ h. of_has unit text (Err Range) h))

no_number : (text : List ℕ) (r : Result ℤ NumFault) → IsNumberUnless text r → (IsNumberText text → ⊥) → r ≡ Err NotNumber
no_number text (Ok z) number none = absurd (none number)
no_number text (Err Range) number none = absurd (none number)
no_number text (Err NotNumber) number none = refl

pub not_number_iff : (unit : Unit) (text : List ℕ) → (length_in unit text ≡ Err NotNumber) ↔ (IsNumberText text → ⊥)
not_number_iff unit text = ((λ e number. (has_of unit text (Err NotNumber) e number).3), (λ none. no_number text (length_in unit text) (reads_number unit text) none))

-- the bound

signed_size : (sign : Sign) (k : ℕ) → unsigned_abs (signed sign k) ≡ k
signed_size Bare k = refl
signed_size Plus k = refl
signed_size Minus zero = refl
signed_size Minus (suc k) = refl

length_bound : (n : Number) (per_unit : ℕ) (z : ℤ) → IsLength n per_unit (Ok z) → unsigned_abs z ≤ 1000000000
length_bound n per_unit z h = let size = ap unsigned_abs h.3 ∙ signed_size n.sign h.0 in let few = h.2 in omega arith

pub ok_bound : (unit : Unit) (text : List ℕ) (z : ℤ) → length_in unit text ≡ Ok z → unsigned_abs z ≤ 1000000000
ok_bound unit text z e = let h = (ok_iff unit text z).0 e in length_bound h.0 (nanometres_of unit) z h.3

-- the same of a result that is the reading
pub reading_bound : (unit : Unit) (text : List ℕ) (r : Result ℤ NumFault) → r ≡ length_in unit text → IfOk r (λ z. unsigned_abs z ≤ 1000000000)
reading_bound unit text (Ok z) e = ok_bound unit text z (sym e)
reading_bound unit text (Err f) e = tt

-- a length so small fits 32 bits
pub short_fits : (z : ℤ) → unsigned_abs z ≤ 1000000000 → FitsSigned w32 z
short_fits z h = fits_signed_from_abs w32 z (omega arith)

pub short_below : (z : ℤ) → unsigned_abs z ≤ 1000000000 → z <ℤ pos (2 ^ 31)
short_below (pos n) h = omega (arith, ints)
short_below (negsuc n) h = omega (arith, ints)

pub short_above : (z : ℤ) → unsigned_abs z ≤ 1000000000 → neg_ℤ (pos (2 ^ 31)) ≤ℤ z
short_above (pos n) h = omega (arith, ints)
short_above (negsuc n) h = omega (arith, ints)
