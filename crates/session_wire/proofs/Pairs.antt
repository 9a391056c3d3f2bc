-- Two things, one behind the other.
use Rattle.std.proofs.Common.{◌≡◌, ℕ, List, [], ◌++◌, refl, sym, ap, ◌∙◌, subst, append_assoc}
use Rattle.std.proofs.lemmas.List.{append-nil}
use Rattle.session_wire.specs.Words.{EndsWord}
use Rattle.session_wire.specs.Parts.{Then, Begins, StopsAt}
use Rattle.session_wire.proofs.Stops.{stops_at_thing}
use Rattle.session_wire.proofs.Things.{IsSpelling}

-- each of the two is of its form
abbrev pub AreBoth : {T U : Type 0} → (T → Type 0) → (U → Type 0) → (T × U) → Type 0
AreBoth P Q x = P x.0 × Q x.1

abbrev pub both_text : {T U : Type 0} → (T → List ℕ) → (U → List ℕ) → (T × U) → List ℕ
both_text text more x = text x.0 ++ more x.1

pub both_then : {T U : Type 0} (P : T → Type 0) (Q : U → Type 0) (text : T → List ℕ) (more : U → List ℕ) (line mid rest : List ℕ) (x : T) (y : U) → Then P text line x mid → Then Q more mid y rest → Then (AreBoth P Q) (both_text text more) line (x, y) rest
both_then P Q text more line mid rest x y a b = record {
  formed = (a.formed, b.formed);
  ends = b.ends;
  spelled = a.spelled ∙ ap (λ (t : List ℕ). text x ++ t) b.spelled ∙ sym (append_assoc (text x) (more y) rest);
}

-- a line stops to be both where it stops to be the first
pub stops_at_first : {T U : Type 0} {P : T → Type 0} {Q : U → Type 0} {text : T → List ℕ} {more : U → List ℕ} → IsSpelling P text → IsSpelling Q more → (line : List ℕ) (left : ℕ) → EndsWord line → StopsAt (Begins P text) line left → StopsAt (Begins (AreBoth P Q) (both_text text more)) line left
stops_at_first {T} {U} {P} {Q} {text} {more} one two line left ends = stops_at_thing P text (Begins (AreBoth P Q) (both_text text more)) line [] line left refl ends
    (λ x f.
    let y = two.sample in
    let end : EndsWord (more y) = subst EndsWord (append-nil (more y)) (two.first y [] tt) in
    (more y, end, ((x, y), [], record { formed = (f, two.fits); ends = tt; spelled = sym (append-nil (text x ++ more y)) })))
    (λ t end is.
    let (z, r, b) = is in
    (z.0, more z.1 ++ r, record { formed = b.formed.0; ends = two.first z.1 r b.ends; spelled = b.spelled ∙ append_assoc (text z.0) (more z.1) r }))

-- or, behind the first, where it stops to be the second
pub stops_at_second : {T U : Type 0} {P : T → Type 0} {Q : U → Type 0} {text : T → List ℕ} {more : U → List ℕ} → IsSpelling P text → IsSpelling Q more → (line : List ℕ) (x : T) (rest : List ℕ) (left : ℕ) → Then P text line x rest → StopsAt (Begins Q more) rest left → StopsAt (Begins (AreBoth P Q) (both_text text more)) line left
stops_at_second {T} {U} {P} {Q} {text} {more} one two line x rest left a = stops_at_thing Q more (Begins (AreBoth P Q) (both_text text more)) line (text x) rest left a.spelled a.ends
    (λ y f. ([], tt, ((x, y), [], record { formed = (a.formed, f); ends = tt; spelled = sym (append_assoc (text x) (more y) []) })))
    (λ t end is.
    let (z, r, b) = is in
    let same = one.same x z.0 t (more z.1 ++ r) a.formed b.formed.0 end (two.first z.1 r b.ends) (b.spelled ∙ append_assoc (text z.0) (more z.1) r) in
    (z.1, r, record { formed = b.formed.1; ends = b.ends; spelled = same.1 }))

same_both : {T U : Type 0} {P : T → Type 0} {Q : U → Type 0} {text : T → List ℕ} {more : U → List ℕ} → IsSpelling P text → IsSpelling Q more → (x y : T × U) (r s : List ℕ) → AreBoth P Q x → AreBoth P Q y → EndsWord r → EndsWord s → both_text text more x ++ r ≡ both_text text more y ++ s → (x ≡ y) × (r ≡ s)
same_both {T} {U} {P} {Q} {text} {more} one two x y r s f g stop end e =
    let whole = sym (append_assoc (text x.0) (more x.1) r) ∙ e ∙ append_assoc (text y.0) (more y.1) s in
    let head = one.same x.0 y.0 (more x.1 ++ r) (more y.1 ++ s) f.0 g.0 (two.first x.1 r stop) (two.first y.1 s end) whole in
    let tail = two.same x.1 y.1 r s f.1 g.1 stop end head.1 in
    (λ i. (head.0 i, tail.0 i), tail.1)

-- both have one text
pub both : {T U : Type 0} {P : T → Type 0} {Q : U → Type 0} {text : T → List ℕ} {more : U → List ℕ} → IsSpelling P text → IsSpelling Q more → IsSpelling (AreBoth P Q) (both_text text more)
both {T} {U} {P} {Q} {text} {more} one two = record {
  sample = (one.sample, two.sample);
  fits = (one.fits, two.fits);
  first = λ x r stop. subst EndsWord (sym (append_assoc (text x.0) (more x.1) r)) (one.first x.0 (more x.1 ++ r) (two.first x.1 r stop));
  same = same_both one two;
}
