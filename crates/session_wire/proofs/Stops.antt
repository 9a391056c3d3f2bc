-- Where a line stops to be one of a form, and where the lines stop of which it is the end.
use Rattle.std.proofs.Common.{◌≡◌, ℕ, ◌-◌, inl, inr, true, false, List, [], ◌∷◌, ◌++◌, length, refl, sym, ap, ◌∙◌, subst, arith, append_assoc}
use Rattle.std.proofs.lemmas.List.{append-nil}
use Rattle.session_wire.specs.Words.{IsWord, EndsWord}
use Rattle.session_wire.specs.Places.{Continues}
use Rattle.session_wire.specs.Parts.{Begins, StopsAt}
use Rattle.session_wire.proofs.WordParts.{ends_behind, ends_front, two_fronts}

-- lines of a form begin with a thing of the form
pub some_thing : {T : Type 0} (P : T → Type 0) (text : T → List ℕ) (x : T) → P x → EndsWord (text x) → Continues (Begins P text) []
some_thing P text x f end = (text x, end, (x, [], record { formed = f; ends = tt; spelled = sym (append-nil (text x)) }))

pub not_true : false ≡ true → ⊥
not_true e = absurd cc

-- the line behind a word that is known
pub behind_word : (line word rest wanted : List ℕ) → line ≡ 32 ∷ (word ++ rest) → word ≡ wanted → line ≡ 32 ∷ (wanted ++ rest)
behind_word line word rest wanted e is = e ∙ ap (λ (w : List ℕ). 32 ∷ (w ++ rest)) is

-- a line without a word
pub stops_empty : (Is : List ℕ → Type 0) (line : List ℕ) → Continues Is [] → (Is [] → ⊥) → line ≡ [] → StopsAt Is line 0
stops_empty Is line some none e = rw e (inr (record { place = refl; read = some; none = none }))

-- a line whose first word begins no line of the form
pub stops_here : (Is : List ℕ → Type 0) (line word rest : List ℕ) → Continues Is [] → IsWord word → EndsWord rest → line ≡ 32 ∷ (word ++ rest) → ((t : List ℕ) → EndsWord t → Is (32 ∷ (word ++ t)) → ⊥) → StopsAt Is line (length line - 1)
stops_here Is line word rest some whole ends e none = inl (record {
  words = [];
  word = word;
  rest = rest;
  parts = e;
  place = let long = ap length e in omega (arith, long);
  whole = whole;
  ends = ends;
  read = some;
  lost = λ c. none c.0 c.1 c.2;
})

-- a longer line stops where its end does
pub stops_behind : (Is Js : List ℕ → Type 0) (line p rest : List ℕ) (left : ℕ) → line ≡ p ++ rest → EndsWord rest
    → ((t : List ℕ) → EndsWord t → Js t → Is (p ++ t)) → ((t : List ℕ) → EndsWord t → Is (p ++ t) → Js t)
    → StopsAt Js rest left → StopsAt Is line left
stops_behind Is Js line p rest left e ends on back (inl s) =
    let after = s.word ++ s.rest in
    let begin : EndsWord (s.words ++ 32 ∷ after) = subst EndsWord s.parts ends in
    inl (record {
      words = p ++ s.words;
      word = s.word;
      rest = s.rest;
      parts = e ∙ ap (λ (t : List ℕ). p ++ t) s.parts ∙ sym (append_assoc p s.words (32 ∷ after));
      place = s.place;
      whole = s.whole;
      ends = s.ends;
      read = let (r, f, is) = s.read in (r, f, subst Is (sym (append_assoc p s.words r)) (on (s.words ++ r) (ends_behind s.words (32 ∷ after) r begin f) is));
      lost = λ c.
          let (r, f, is) = c in
          let t = (s.words ++ 32 ∷ s.word) ++ r in
          let same : ((p ++ s.words) ++ 32 ∷ s.word) ++ r ≡ p ++ t = ap (λ (x : List ℕ). x ++ r) (append_assoc p s.words (32 ∷ s.word)) ∙ append_assoc p (s.words ++ 32 ∷ s.word) r in
          let first : EndsWord t = subst EndsWord (sym (append_assoc s.words (32 ∷ s.word) r)) (ends_behind s.words (32 ∷ after) (32 ∷ (s.word ++ r)) begin refl) in
          s.lost (r, f, back t first (subst Is same is));
    })
stops_behind Is Js line p rest left e ends on back (inr s) = inr (record {
  place = s.place;
  read = let (r, f, is) = s.read in (r, f, subst Is (sym (append_assoc p rest r) ∙ ap (λ (x : List ℕ). x ++ r) (sym e)) (on (rest ++ r) (ends_behind rest [] r (subst EndsWord (sym (append-nil rest)) ends) f) is));
  none = λ is. s.none (back rest ends (subst Is e is));
})

-- what comes behind the words of a thing that go on
goes_on : {T : Type 0} (P : T → Type 0) (text : T → List ℕ) (Is : List ℕ → Type 0) (p w : List ℕ) → Continues (Begins P text) w
    → ((x : T) → P x → (t : List ℕ) × EndsWord t × Is (p ++ (text x ++ t)))
    → ((x : T) (m : List ℕ) → P x → EndsWord m → w ≡ text x ++ m → ⊥) → Continues Is (p ++ w)
goes_on P text Is p w (r, f, (x, s, is)) on none = elim (two_fronts (text x) w s r (sym is.spelled)) [
  | inl (m, e, g) ↦
      let (t, end, whole) = on x is.formed in
      let same : p ++ (text x ++ t) ≡ (p ++ w) ++ (m ++ t) = ap (λ (y : List ℕ). p ++ (y ++ t)) e ∙ ap (λ (y : List ℕ). p ++ y) (append_assoc w m t) ∙ sym (append_assoc p w (m ++ t)) in
      (m ++ t, ends_behind m s t (subst EndsWord g f) end, subst Is same whole)
  | inr (m, e, g) ↦ absurd (none x m is.formed (ends_front m r (subst EndsWord g is.ends)) e)
]

-- a line stops where the next of its things does
pub stops_at_thing : {T : Type 0} (P : T → Type 0) (text : T → List ℕ) (Is : List ℕ → Type 0) (line p rest : List ℕ) (left : ℕ) → line ≡ p ++ rest → EndsWord rest
    → ((x : T) → P x → (t : List ℕ) × EndsWord t × Is (p ++ (text x ++ t)))
    → ((t : List ℕ) → EndsWord t → Is (p ++ t) → Begins P text t)
    → StopsAt (Begins P text) rest left → StopsAt Is line left
stops_at_thing P text Is line p rest left e ends on back (inl s) =
    let after = s.word ++ s.rest in
    let begin : EndsWord (s.words ++ 32 ∷ after) = subst EndsWord s.parts ends in
    inl (record {
      words = p ++ s.words;
      word = s.word;
      rest = s.rest;
      parts = e ∙ ap (λ (t : List ℕ). p ++ t) s.parts ∙ sym (append_assoc p s.words (32 ∷ after));
      place = s.place;
      whole = s.whole;
      ends = s.ends;
      read = goes_on P text Is p s.words s.read on (λ x m f end g.
          let whole : (s.words ++ 32 ∷ s.word) ++ [] ≡ text x ++ (m ++ 32 ∷ s.word) = append-nil (s.words ++ 32 ∷ s.word) ∙ ap (λ (y : List ℕ). y ++ 32 ∷ s.word) g ∙ append_assoc (text x) m (32 ∷ s.word) in
          s.lost ([], tt, (x, m ++ 32 ∷ s.word, record { formed = f; ends = ends_behind m [] (32 ∷ s.word) (subst EndsWord (sym (append-nil m)) end) refl; spelled = whole })));
      lost = λ c.
          let (r, f, is) = c in
          let t = (s.words ++ 32 ∷ s.word) ++ r in
          let same : ((p ++ s.words) ++ 32 ∷ s.word) ++ r ≡ p ++ t = ap (λ (x : List ℕ). x ++ r) (append_assoc p s.words (32 ∷ s.word)) ∙ append_assoc p (s.words ++ 32 ∷ s.word) r in
          let first : EndsWord t = subst EndsWord (sym (append_assoc s.words (32 ∷ s.word) r)) (ends_behind s.words (32 ∷ after) (32 ∷ (s.word ++ r)) begin refl) in
          s.lost (r, f, back t first (subst Is same is));
    })
stops_at_thing P text Is line p rest left e ends on back (inr s) = inr (record {
  place = s.place;
  read = subst (Continues Is) (sym e) (goes_on P text Is p rest s.read on (λ x m f end g. s.none (x, m, record { formed = f; ends = end; spelled = g })));
  none = λ is. s.none (back rest ends (subst Is e is));
})

-- a line with something behind its end
pub stops_at_end : (line word rest : List ℕ) → IsWord word → EndsWord rest → line ≡ 32 ∷ (word ++ rest) → StopsAt (λ r. r ≡ []) line (length line - 1)
stops_at_end line word rest whole ends e = stops_here (λ r. r ≡ []) line word rest ([], tt, refl) whole ends e (λ t end f. absurd cc)
