-- Lines of a form that is wider by lines of another first word, and lines without the space at their front.
use Rattle.std.proofs.Common.{◌≡◌, ℕ, inl, inr, List, [], ◌∷◌, ◌++◌, length, refl, sym, ap, ◌∙◌, subst, arith, append_assoc}
use Rattle.std.proofs.lemmas.List.{append-nil, length-append}
use Rattle.session_wire.specs.Words.{IsWord, EndsWord}
use Rattle.session_wire.specs.Places.{Continues}
use Rattle.session_wire.specs.Parts.{StopsAt}
use Rattle.session_wire.specs.Readings.{HasLeft}
use Rattle.session_wire.proofs.WordParts.{word_split, word_back, two_fronts, ends_behind}

tail_is : (a b : ℕ) (x y : List ℕ) → a ∷ x ≡ b ∷ y → x ≡ y
tail_is a b x y e = cc

head_is : (a b : ℕ) (x y : List ℕ) → a ∷ x ≡ b ∷ y → a ≡ b
head_is a b x y e = cc

-- no space stands in a word
no_space : (w : List ℕ) (c : ℕ) (k word : List ℕ) → IsWord word → word ≡ w ++ c ∷ k → c ≡ 32 → ⊥
no_space w c k word whole e space = (word_back w (c ∷ k) (subst IsWord e whole)).0 space

-- a longer line begins with the same word
same_first : (word rest words last more r : List ℕ) → IsWord word → EndsWord rest → IsWord last → EndsWord more → EndsWord r → 32 ∷ (word ++ rest) ≡ words ++ 32 ∷ (last ++ more) → (m : List ℕ) × EndsWord m × ((words ++ 32 ∷ last) ++ r ≡ 32 ∷ (word ++ m))
same_first word rest [] last more r whole tidy single end stop e =
    let same = (word_split word last rest more whole single tidy end (tail_is 32 32 (word ++ rest) (last ++ more) e)).0 in
    (r, stop, ap (λ (y : List ℕ). 32 ∷ (y ++ r)) (sym same))
same_first word rest (b ∷ w) last more r whole tidy single end stop e =
    let space : 32 ≡ b = head_is 32 b (word ++ rest) (w ++ 32 ∷ (last ++ more)) e in
    let tail : word ++ rest ≡ w ++ 32 ∷ (last ++ more) = tail_is 32 b (word ++ rest) (w ++ 32 ∷ (last ++ more)) e in
    let after = 32 ∷ (last ++ r) in
    let joined : (b ∷ (w ++ 32 ∷ last)) ++ r ≡ 32 ∷ (w ++ after) = ap (λ (y : List ℕ). b ∷ y) (append_assoc w (32 ∷ last) r) ∙ ap (λ (c : ℕ). c ∷ (w ++ after)) (sym space) in
    elim (two_fronts word w rest (32 ∷ (last ++ more)) tail) [
      | inl ([], f, g) ↦ (after, refl, joined ∙ ap (λ (y : List ℕ). 32 ∷ (y ++ after)) (sym (f ∙ append-nil w)))
      | inl (c ∷ k, f, g) ↦ absurd (no_space w c k word whole f (sym (head_is 32 c (last ++ more) (k ++ rest) g)))
      | inr (m, f, g) ↦ (m ++ after, ends_behind m (32 ∷ (last ++ more)) after (subst EndsWord g tidy) refl, joined ∙ ap (λ (y : List ℕ). 32 ∷ (y ++ after)) f ∙ ap (λ (y : List ℕ). 32 ∷ y) (append_assoc word m after))
    ]

-- a line whose first word none of the other lines has stops in the same place
pub stops_also : (Is Js : List ℕ → Type 0) (line word rest : List ℕ) (left : ℕ) → IsWord word → EndsWord rest → line ≡ 32 ∷ (word ++ rest)
    → ((t : List ℕ) → Is t → Js t) → ((t : List ℕ) → EndsWord t → Js (32 ∷ (word ++ t)) → Is (32 ∷ (word ++ t)))
    → StopsAt Is line left → StopsAt Js line left
stops_also Is Js line word rest left whole ends e on back (inl s) = inl (record {
  words = s.words;
  word = s.word;
  rest = s.rest;
  parts = s.parts;
  place = s.place;
  whole = s.whole;
  ends = s.ends;
  read = let (r, f, is) = s.read in (r, f, on (s.words ++ r) is);
  lost = λ c.
      let (r, f, is) = c in
      let (m, end, same) = same_first word rest s.words s.word s.rest r whole ends s.whole s.ends f (sym e ∙ s.parts) in
      s.lost (r, f, subst Is (sym same) (back m end (subst Js same is)));
})
stops_also Is Js line word rest left whole ends e on back (inr s) = inr (record {
  place = s.place;
  read = let (r, f, is) = s.read in (r, f, on (line ++ r) is);
  none = λ is. s.none (subst Is (sym e) (back rest ends (subst Js e is)));
})

spaced : (words rest : List ℕ) → (words ++ 32 ∷ []) ++ rest ≡ words ++ 32 ∷ rest
spaced words rest = append_assoc words (32 ∷ []) rest

word_place : (Is Js : List ℕ → Type 0) (line : List ℕ) (left : ℕ) → ((t : List ℕ) → Js (32 ∷ t) → Is t) → ((t : List ℕ) → Is t → Js (32 ∷ t))
    → (words word rest : List ℕ) → 32 ∷ line ≡ words ++ 32 ∷ (word ++ rest) → left ≡ length (word ++ rest) → IsWord word → EndsWord rest → Continues Js words → (Continues Js (words ++ 32 ∷ word) → ⊥) → HasLeft Is line left
word_place Is Js line left on back [] word rest e place whole ends read lost =
    let parts : line ≡ word ++ rest = tail_is 32 32 line (word ++ rest) e in
    let long = ap length parts in (
      0,
      inl (record { before = []; word = word; rest = rest; parts = parts; place = refl; whole = whole; ends = ends; read = inl refl; lost = λ c. let (r, f, is) = c in lost (r, f, back (word ++ r) is) }),
      omega (arith, long, place),
    )
word_place Is Js line left on back (b ∷ w) word rest e place whole ends read lost =
    let before = w ++ 32 ∷ [] in
    let space : 32 ≡ b = head_is 32 b line (w ++ 32 ∷ (word ++ rest)) e in
    let parts : line ≡ before ++ (word ++ rest) = tail_is 32 b line (w ++ 32 ∷ (word ++ rest)) e ∙ sym (spaced w (word ++ rest)) in
    let long = ap length parts in
    let sum = length-append before (word ++ rest) in (
      length before,
      inl (record {
        before = before;
        word = word;
        rest = rest;
        parts = parts;
        place = refl;
        whole = whole;
        ends = ends;
        read = let (r, f, is) = read in inr (w, refl, (r, f, on (w ++ r) (subst (λ (c : ℕ). Js (c ∷ (w ++ r))) (sym space) is)));
        lost = λ c.
            let (r, f, is) = c in
            let t = (w ++ 32 ∷ word) ++ r in
            lost (r, f, subst (λ (a : ℕ). Js (a ∷ t)) space (back t (subst Is (ap (λ (y : List ℕ). y ++ r) (spaced w word)) is)));
      }),
      omega (arith, long, sum, place),
    )

-- where a line stops behind a space, the line without the space is bad
pub place_spaced : (Is Js : List ℕ → Type 0) (line : List ℕ) (left : ℕ) → ((t : List ℕ) → Js (32 ∷ t) → Is t) → ((t : List ℕ) → Is t → Js (32 ∷ t)) → StopsAt Js (32 ∷ line) left → HasLeft Is line left
place_spaced Is Js line left on back (inl s) = word_place Is Js line left on back s.words s.word s.rest s.parts s.place s.whole s.ends s.read s.lost
place_spaced Is Js line left on back (inr s) = (
  length line,
  inr (record { place = refl; read = let (r, f, is) = s.read in (r, f, on (line ++ r) is); none = λ is. s.none (back line is) }),
  omega (arith, s.place),
)
