-- Things of several kinds, each of which begins with a word of its own.
use Rattle.std.proofs.Common.{◌≡◌, ℕ, List, [], ◌∷◌, ◌++◌, refl, sym, ap, ◌∙◌, append_assoc}
use Rattle.std.proofs.lemmas.List.{append_cancel_left}
use Rattle.session_wire.specs.Words.{EndsWord}
use Rattle.session_wire.specs.Parts.{Then, Begins, StopsAt}
use Rattle.session_wire.proofs.Stops.{stops_behind, behind_word}
use Rattle.session_wire.proofs.Things.{IsSpelling}

-- a thing of this kind, made of what follows its word
pub record IsMade {R T : Type 0} (P : T → Type 0) (make : T → R) (q : R) : Type 0 where
  pub thing : T
  pub formed : P thing
  pub is : q ≡ make thing

-- the things of one kind are a word and something of a form behind it
pub record IsKind {R T : Type 0} (Q : R → Type 0) (spelled_as : R → List ℕ) (P : T → Type 0) (text : T → List ℕ) (word : List ℕ) (make : T → R) : Type 0 where
  pub spelling : IsSpelling P text
  pub formed : (x : T) → P x → Q (make x)
  pub spelled : (x : T) → spelled_as (make x) ≡ word ++ text x
  pub back : (t : List ℕ) (q : R) (r : List ℕ) → EndsWord t → Q q → EndsWord r → word ++ t ≡ spelled_as q ++ r → IsMade P make q

-- what follows the word of a thing of this kind
pub behind_kind : {R T : Type 0} {Q : R → Type 0} {spelled_as : R → List ℕ} {P : T → Type 0} {text : T → List ℕ} {word : List ℕ} {make : T → R} → IsKind Q spelled_as P text word make
    → (t : List ℕ) (q : R) (r : List ℕ) (m : IsMade P make q) → word ++ t ≡ spelled_as q ++ r → t ≡ text m.thing ++ r
behind_kind {R} {T} {Q} {spelled_as} {P} {text} {word} {make} k t q r m e =
    append_cancel_left word t (text m.thing ++ r) (e ∙ ap (λ (p : R). spelled_as p ++ r) m.is ∙ ap (λ (y : List ℕ). y ++ r) (k.spelled m.thing) ∙ append_assoc word (text m.thing) r)

kind_spelled : {R T : Type 0} {Q : R → Type 0} {spelled_as : R → List ℕ} {P : T → Type 0} {text : T → List ℕ} {word : List ℕ} {make : T → R} → IsKind Q spelled_as P text word make
    → (x : T) (r : List ℕ) → word ++ (text x ++ r) ≡ spelled_as (make x) ++ r
kind_spelled {R} {T} {Q} {spelled_as} {P} {text} {word} {make} k x r = sym (append_assoc word (text x) r) ∙ ap (λ (y : List ℕ). y ++ r) (sym (k.spelled x))

-- the thing of what follows its word, behind a space
pub kind_then : {R T : Type 0} {Q : R → Type 0} {spelled_as : R → List ℕ} {P : T → Type 0} {text : T → List ℕ} {word : List ℕ} {make : T → R} → IsKind Q spelled_as P text word make
    → (line : List ℕ) (x : T) (rest : List ℕ) → Then P text line x rest → Then Q (λ q. 32 ∷ spelled_as q) (32 ∷ (word ++ line)) (make x) rest
kind_then {R} {T} {Q} {spelled_as} {P} {text} {word} {make} k line x rest a = record {
  formed = k.formed x a.formed;
  ends = a.ends;
  spelled = ap (λ (y : List ℕ). 32 ∷ y) (ap (λ (y : List ℕ). word ++ y) a.spelled ∙ kind_spelled k x rest);
}

pub cons_is : (x y : List ℕ) → 32 ∷ x ≡ 32 ∷ y → x ≡ y
cons_is x y e = cc

-- a line behind the word stops where it stops to be of the form
pub in_kind : {R T : Type 0} {Q : R → Type 0} {spelled_as : R → List ℕ} {P : T → Type 0} {text : T → List ℕ} {word : List ℕ} {make : T → R} → IsKind Q spelled_as P text word make
    → (line : List ℕ) (left : ℕ) → EndsWord line → StopsAt (Begins P text) line left → StopsAt (λ t. Begins Q (λ q. 32 ∷ spelled_as q) (32 ∷ (word ++ t))) line left
in_kind {R} {T} {Q} {spelled_as} {P} {text} {word} {make} k line left ends = stops_behind (λ t. Begins Q (λ q. 32 ∷ spelled_as q) (32 ∷ (word ++ t))) (Begins P text) line [] line left refl ends
    (λ t end is. let (x, r, a) = is in (make x, r, kind_then k t x r a))
    (λ t end is.
    let (q, r, a) = is in
    let e : word ++ t ≡ spelled_as q ++ r = cons_is (word ++ t) (spelled_as q ++ r) a.spelled in
    let m = k.back t q r end a.formed a.ends e in
    (m.thing, r, record { formed = m.formed; ends = a.ends; spelled = behind_kind k t q r m e }))

-- and so does the line with the word
pub stops_in_kind : {R : Type 0} (Q : R → Type 0) (spelled_as : R → List ℕ) (kind line word rest : List ℕ) (left : ℕ) → EndsWord rest → line ≡ 32 ∷ (word ++ rest) → word ≡ kind → StopsAt (λ t. Begins Q (λ q. 32 ∷ spelled_as q) (32 ∷ (kind ++ t))) rest left → StopsAt (Begins Q (λ q. 32 ∷ spelled_as q)) line left
stops_in_kind Q spelled_as kind line word rest left ends e is = stops_behind (Begins Q (λ q. 32 ∷ spelled_as q)) (λ t. Begins Q (λ q. 32 ∷ spelled_as q) (32 ∷ (kind ++ t))) line (32 ∷ kind) rest left (behind_word line word rest kind e is) ends (λ t end x. x) (λ t end x. x)

-- a thing of this kind has one text
pub same_kind : {R T : Type 0} {Q : R → Type 0} {spelled_as : R → List ℕ} {P : T → Type 0} {text : T → List ℕ} {word : List ℕ} {make : T → R} → IsKind Q spelled_as P text word make
    → (x : T) (q : R) (r s : List ℕ) → P x → Q q → EndsWord r → EndsWord s → spelled_as (make x) ++ r ≡ spelled_as q ++ s → (make x ≡ q) × (r ≡ s)
same_kind {R} {T} {Q} {spelled_as} {P} {text} {word} {make} k x q r s f g stop end e =
    let whole = kind_spelled k x r ∙ e in
    let m = k.back (text x ++ r) q s (k.spelling.first x r stop) g end whole in
    let same = k.spelling.same x m.thing r s f m.formed stop end (behind_kind k (text x ++ r) q s m whole) in
    (ap make same.0 ∙ sym m.is, same.1)
