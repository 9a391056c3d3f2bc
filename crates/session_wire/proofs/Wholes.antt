-- Lines that are one thing, with nothing behind it.
use Rattle.std.proofs.Common.{◌≡◌, ℕ, List, [], ◌++◌, refl, sym, ap, ◌∙◌}
use Rattle.std.proofs.lemmas.List.{append-nil}
use Rattle.session_wire.specs.Words.{EndsWord}
use Rattle.session_wire.specs.Parts.{Then, Begins, StopsAt}
use Rattle.session_wire.proofs.Stops.{stops_behind, stops_at_thing}
use Rattle.session_wire.proofs.Things.{IsSpelling}
use Rattle.session_wire.proofs.WordKinds.{IsKind, behind_kind}

-- the line is the text of a thing
abbrev pub IsWhole : {T : Type 0} → (T → Type 0) → (T → List ℕ) → List ℕ → Type 0
IsWhole {T} P text line = (x : T) × P x × (line ≡ text x)

-- a line stops to be one thing where it stops to begin with one
pub stops_in_whole : {T : Type 0} (P : T → Type 0) (text : T → List ℕ) (line : List ℕ) (left : ℕ) → EndsWord line → StopsAt (Begins P text) line left → StopsAt (IsWhole P text) line left
stops_in_whole P text line left ends = stops_at_thing P text (IsWhole P text) line [] line left refl ends
    (λ x f. ([], tt, (x, f, append-nil (text x))))
    (λ t end is.
    let (x, f, e) = is in
    (x, [], record { formed = f; ends = tt; spelled = e ∙ sym (append-nil (text x)) }))

-- or at what stands behind it
pub stops_behind_whole : {T : Type 0} {P : T → Type 0} {text : T → List ℕ} → IsSpelling P text → (line : List ℕ) (x : T) (rest : List ℕ) (left : ℕ) → Then P text line x rest → StopsAt (λ r. r ≡ []) rest left → StopsAt (IsWhole P text) line left
stops_behind_whole {T} {P} {text} sp line x rest left a = stops_behind (IsWhole P text) (λ r. r ≡ []) line (text x) rest left a.spelled a.ends
    (λ t end e. (x, a.formed, ap (λ (y : List ℕ). text x ++ y) e ∙ append-nil (text x)))
    (λ t end is.
    let (y, f, e) = is in
    (sp.same x y t [] a.formed f end tt (e ∙ sym (append-nil (text y)))).1)

pub whole_of : {T : Type 0} {P : T → Type 0} {text : T → List ℕ} (line : List ℕ) (x : T) (rest : List ℕ) → Then P text line x rest → rest ≡ [] → line ≡ text x
whole_of {T} {P} {text} line x rest a e = a.spelled ∙ ap (λ (y : List ℕ). text x ++ y) e ∙ append-nil (text x)

-- a line behind its word stops where it stops to be of the form
pub in_whole_kind : {R T : Type 0} {Q : R → Type 0} {spelled_as : R → List ℕ} {P : T → Type 0} {text : T → List ℕ} {word : List ℕ} {make : T → R} → IsKind Q spelled_as P text word make
    → (line : List ℕ) (left : ℕ) → EndsWord line → StopsAt (IsWhole P text) line left → StopsAt (λ t. IsWhole Q spelled_as (word ++ t)) line left
in_whole_kind {R} {T} {Q} {spelled_as} {P} {text} {word} {make} k line left ends = stops_behind (λ t. IsWhole Q spelled_as (word ++ t)) (IsWhole P text) line [] line left refl ends
    (λ t end is.
    let (x, f, e) = is in
    (make x, k.formed x f, ap (λ (y : List ℕ). word ++ y) e ∙ sym (k.spelled x)))
    (λ t end is.
    let (q, f, e) = is in
    let whole : word ++ t ≡ spelled_as q ++ [] = e ∙ sym (append-nil (spelled_as q)) in
    let m = k.back t q [] end f tt whole in
    (m.thing, m.formed, behind_kind k t q [] m whole ∙ append-nil (text m.thing)))
