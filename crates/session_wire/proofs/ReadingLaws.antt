-- What is read is the one thing that the line spells, and the byte that is told is the one at which it is bad.
use Rattle.std.proofs.Common.{◌≡◌, ℕ, ◌+◌, ◌-◌, ◌≤◌, inl, inr, List, [], ◌∷◌, ◌++◌, length, Result, Ok, Err, refl, sym, ap, ◌∙◌, arith}
use Rattle.std.specs.Prelude.{IfOk, IfErr}
use Rattle.std.specs.Result.{IsErrAnd}
use Rattle.std.proofs.lemmas.List.{length-append}
use Rattle.session_wire.specs.declared.faults.Halt.{Halt}
use Rattle.session_wire.specs.declared.faults.Halt.TheVariants as halts
use Rattle.session_wire.specs.declared.faults.LineFault.{LineFault}
use Rattle.session_wire.specs.declared.faults.LineFault.TheVariants.{Bad, Memory}
use Rattle.session_wire.specs.Words.{EndsWord}
use Rattle.session_wire.specs.Places.{Continues, IsBadAt}
use Rattle.session_wire.specs.Parts.{Then, StopsAt, WhyHalts}
use Rattle.session_wire.specs.Readings.{Reads, HasReading, HasLeft, WhyStopped, WhyUnread, Gives}
use Rattle.session_wire.proofs.Halts.{err_is}
use Rattle.session_wire.proofs.PlaceLaws.{one_place, no_place}
use Rattle.session_wire.proofs.Stops.{stops_behind}
use Rattle.session_wire.proofs.WordKinds.{IsKind}
use Rattle.session_wire.proofs.Wholes.{IsWhole, whole_of, in_whole_kind}

-- a line that is bad has no reading
pub no_thing : {T : Type 0} (P : T → Type 0) (text : T → List ℕ) (line : List ℕ) (at : ℕ) → IsBadAt (HasReading P text) line at → (x : T) → Reads P text line x → ⊥
no_thing P text line at bad x reads = no_place (HasReading P text) line at (x, reads) bad

pub only_thing : {T : Type 0} (P : T → Type 0) (text : T → List ℕ) → ((x y : T) → P x → P y → text x ≡ text y → x ≡ y) → (line : List ℕ) (r : Result T LineFault) → IfOk r (Reads P text line) → IfErr r (WhyUnread (HasReading P text) line) → (x : T) → Reads P text line x → Gives r (Ok x)
only_thing P text same line (Ok found) ok err x reads = ap Ok (same x found reads.formed ok.formed (sym reads.spelled ∙ ok.spelled))
only_thing P text same line (Err (Bad at)) ok err x reads = absurd (no_thing P text line at err x reads)
only_thing P text same line (Err Memory) ok err x reads = tt

pub only_place : {T : Type 0} (P : T → Type 0) (text : T → List ℕ) (line : List ℕ) (r : Result T LineFault) → IfOk r (Reads P text line) → IfErr r (WhyUnread (HasReading P text) line) → (at : ℕ) → IsBadAt (HasReading P text) line at → Gives r (Err (Bad at))
only_place P text line (Ok found) ok err at bad = absurd (no_thing P text line at bad found ok)
only_place P text line (Err (Bad told)) ok err at bad = ap (λ (n : ℕ). Err (Bad n)) (one_place (HasReading P text) line at told bad err)
only_place P text line (Err Memory) ok err at bad = tt

-- what a halt within a line says of the line
stops_of : {Is Js : List ℕ → Type 0} {line rest : List ℕ} (h : Halt) → WhyHalts Js rest h → ((left : ℕ) → StopsAt Js rest left → HasLeft Is line left) → WhyStopped Is line h
stops_of (halts.Left left) w longer = longer left w
stops_of halts.Memory w longer = tt

pub stopped : {T : Type 0} {Is Js : List ℕ → Type 0} {line rest : List ℕ} (r : Result T Halt) → IfErr r (WhyHalts Js rest) → ((left : ℕ) → StopsAt Js rest left → HasLeft Is line left) → IfErr r (WhyStopped Is line)
stopped (Ok x) w longer = tt
stopped {T} {Is} {Js} {line} {rest} (Err h) w longer = stops_of {Is = Is} {Js = Js} {line = line} {rest = rest} h w longer

-- the same of what a `?` hands on
pub handed_left : {T : Type 0} {Is : List ℕ → Type 0} {line : List ℕ} (r : Result T Halt) (left : ℕ) → IsErrAnd r (λ e. e ≡ halts.Left left) → HasLeft Is line left → IfErr r (WhyStopped Is line)
handed_left {T} {Is} {line} r left h s = err_is r (halts.Left left) (WhyStopped Is line) h s

pub handed_stop : {T : Type 0} {Is Js : List ℕ → Type 0} {line rest : List ℕ} (r : Result T Halt) (h : Halt) → IsErrAnd r (λ e. e ≡ h) → WhyHalts Js rest h → ((left : ℕ) → StopsAt Js rest left → HasLeft Is line left) → IfErr r (WhyStopped Is line)
handed_stop {T} {Is} {Js} {line} {rest} r h same w longer = err_is r h (WhyStopped Is line) same (stops_of {Is = Is} {Js = Js} {line = line} {rest = rest} h w longer)

words_fit : (Is : List ℕ → Type 0) (most : ℕ) → ((line : List ℕ) → Is line → length line ≤ most) → (words : List ℕ) → Continues Is words → length words ≤ most
words_fit Is most short words (r, f, is) = omega (arith, length-append words r, short (words ++ r) is)

-- the byte at which a line is bad isn't far behind what a reading continues
place_fits : (Is : List ℕ → Type 0) (most : ℕ) → ((line : List ℕ) → Is line → length line ≤ most) → (line : List ℕ) (at : ℕ) → IsBadAt Is line at → at ≤ most + 1
place_fits Is most short line at (inl x) = elim x.read [
  | inl e ↦ omega (arith, ap length e, x.place)
  | inr (words, e, on) ↦ omega (arith, ap length e, length-append words (32 ∷ []), words_fit Is most short words on, x.place)
]
place_fits Is most short line at (inr x) = omega (arith, words_fit Is most short line x.read, x.place)

pub fits_left : (Is : List ℕ → Type 0) (most : ℕ) → ((line : List ℕ) → Is line → length line ≤ most) → (line : List ℕ) (h : Halt) (left : ℕ) → h ≡ halts.Left left → WhyStopped Is line h → length line - left ≤ most + 1
fits_left Is most short line (halts.Left n) left e (at, bad, sum) = let same : n ≡ left = cc in omega (arith, place_fits Is most short line at bad, sum, same)
fits_left Is most short line halts.Memory left e w = absurd cc

-- a line behind its word stops where it stops to be of the form
pub in_reading : {R T : Type 0} {Q : R → Type 0} {spelled_as : R → List ℕ} {P : T → Type 0} {text : T → List ℕ} {word : List ℕ} {make : T → R} → IsKind Q spelled_as P text word make
    → (line : List ℕ) (left : ℕ) → EndsWord line → StopsAt (IsWhole P text) line left → StopsAt (λ t. HasReading Q spelled_as (word ++ t)) line left
in_reading {R} {T} {Q} {spelled_as} {P} {text} {word} {make} k line left ends s = stops_behind (λ t. HasReading Q spelled_as (word ++ t)) (λ t. IsWhole Q spelled_as (word ++ t)) line [] line left refl ends
    (λ t end is. let (q, f, e) = is in (q, record { formed = f; spelled = e }))
    (λ t end is. let (q, a) = is in (q, a.formed, a.spelled))
    (in_whole_kind k line left ends s)

-- the thing that a line is, behind its word
pub read_kind : {R T : Type 0} {Q : R → Type 0} {spelled_as : R → List ℕ} {P : T → Type 0} {text : T → List ℕ} {word : List ℕ} {make : T → R} → IsKind Q spelled_as P text word make
    → (line : List ℕ) (x : T) (rest : List ℕ) → Then P text line x rest → rest ≡ [] → Reads Q spelled_as (word ++ line) (make x)
read_kind {R} {T} {Q} {spelled_as} {P} {text} {word} {make} k line x rest a e = record {
  formed = k.formed x a.formed;
  spelled = ap (λ (y : List ℕ). word ++ y) (whole_of line x rest a e) ∙ sym (k.spelled x);
}
