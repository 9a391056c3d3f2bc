-- The angle that a text states is the one that its parts state, both ways, and it is 0 to 7.
use Rattle.std.proofs.Common.{◌≡◌, ℕ, ◌<◌, ◌↔◌, List, Result, Ok, Err, IfOk, refl, sym, subst}
use Rattle.sexp_text.specs.declared.angle_fault.AngleFault.{AngleFault}
use Rattle.sexp_text.specs.declared.angle_fault.AngleFault.TheVariants.{NotNumber, NotAngle}
use Rattle.sexp_text.specs.NumberTexts.{Number, IsNumber, IsNumberText, spelling}
use Rattle.sexp_text.specs.Angles.{IsAngle, IsAngleUnless}
use Rattle.sexp_text.specs.AngleReading.{angle_in}
use Rattle.sexp_text.proofs.AngleReadings.{reads_angle, reads_number, one_angle}

-- the text spells a number that has this angle
abbrev pub HasAngle : List ℕ → Result ℕ AngleFault → Type 0
HasAngle text r = (n : Number) × IsNumber n × (text ≡ spelling n) × IsAngle n r

-- each number that the text spells has this angle
abbrev pub EachAngle : List ℕ → Result ℕ AngleFault → Type 0
EachAngle text r = (n : Number) → IsNumber n → text ≡ spelling n → IsAngle n r

same_reading : (text : List ℕ) (r s : Result ℕ AngleFault) → EachAngle text r → IsAngleUnless text r → EachAngle text s → IsAngleUnless text s → r ≡ s
same_reading text (Ok e) s f number g other = one_angle number.0 _ _ (f number.0 number.1 number.2) (g number.0 number.1 number.2)
same_reading text (Err NotAngle) s f number g other = one_angle number.0 _ _ (f number.0 number.1 number.2) (g number.0 number.1 number.2)
same_reading text (Err NotNumber) (Ok e) f number g other = absurd (f other.0 other.1 other.2)
same_reading text (Err NotNumber) (Err NotAngle) f number g other = absurd (f other.0 other.1 other.2)
same_reading text (Err NotNumber) (Err NotNumber) f number g other = refl

-- only the reading has each number's angle and is `NotNumber` where there is none
pub only_reading : (text : List ℕ) (r : Result ℕ AngleFault) → EachAngle text r → IsAngleUnless text r → r ≡ angle_in text
only_reading text r f number = same_reading text r (angle_in text) f number (reads_angle text) (reads_number text)

-- the laws, both ways

has_of : (text : List ℕ) (r : Result ℕ AngleFault) → angle_in text ≡ r → IsNumberText text → HasAngle text r
has_of text r e number =
    let own = reads_angle text number.0 number.1 number.2 in
    (number.0, number.1, number.2, subst (IsAngle number.0) e own)

of_has : (text : List ℕ) (r : Result ℕ AngleFault) → HasAngle text r → angle_in text ≡ r
of_has text r h = one_angle h.0 _ _ (reads_angle text h.0 h.1 h.2) h.3

pub ok_iff : (text : List ℕ) (e : ℕ) → (angle_in text ≡ Ok e) ↔ HasAngle text (Ok e)
ok_iff text e = ((λ h. has_of text (Ok e) h (subst (IsAngleUnless text) h (reads_number text))), (λ h. of_has text (Ok e) h))

pub not_angle_iff : (text : List ℕ) → (angle_in text ≡ Err NotAngle) ↔ HasAngle text (Err NotAngle)
not_angle_iff text = ((λ h. has_of text (Err NotAngle) h (subst (IsAngleUnless text) h (reads_number text))), (λ h. of_has text (Err NotAngle) h))

no_number : (text : List ℕ) (r : Result ℕ AngleFault) → IsAngleUnless text r → (IsNumberText text → ⊥) → r ≡ Err NotNumber
no_number text (Ok e) number none = absurd (none number)
no_number text (Err NotAngle) number none = absurd (none number)
no_number text (Err NotNumber) number none = refl

pub not_number_iff : (text : List ℕ) → (angle_in text ≡ Err NotNumber) ↔ (IsNumberText text → ⊥)
not_number_iff text = ((λ e number. (has_of text (Err NotNumber) e number).3), (λ none. no_number text (angle_in text) (reads_number text) none))

-- the bound

pub ok_bound : (text : List ℕ) (e : ℕ) → angle_in text ≡ Ok e → e < 8
ok_bound text e h = (((ok_iff text e).0 h).3).4

-- the same of a result that is the reading
pub reading_bound : (text : List ℕ) (r : Result ℕ AngleFault) → r ≡ angle_in text → IfOk r (λ e. e < 8)
reading_bound text (Ok e) h = ok_bound text e (sym h)
reading_bound text (Err f) h = tt
