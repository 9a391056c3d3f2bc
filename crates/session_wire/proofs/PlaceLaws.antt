-- A line is bad at one byte at most, and at none where it has a reading; a line without a reading is bad somewhere.
use Rattle.std.proofs.Common.{◌≡◌, ℕ, ◌+◌, ◌<◌, ◌≤◌, inl, inr, Bool, true, false, eqb, List, [], ◌∷◌, ◌++◌, length, refl, sym, ap, ◌∙◌, subst, arith, append_assoc}
use Rattle.std.proofs.lemmas.Bool.{eqb-true, eqb-false, cases_lt}
use Rattle.std.proofs.lemmas.List.{append-nil, length-append}
use Rattle.session_wire.specs.Words.{IsWord, EndsWord}
use Rattle.session_wire.specs.Places.{Continues, IsBefore, HasLostWord, IsBadAt}
use Rattle.session_wire.specs.Parts.{StopsAt}
use Rattle.session_wire.proofs.WordParts.{ends_behind, two_fronts, word_join, word_back}

-- words with a space behind them, and what follows
spaced : (words rest : List ℕ) → (words ++ 32 ∷ []) ++ rest ≡ words ++ 32 ∷ rest
spaced words rest = append_assoc words (32 ∷ []) rest

-- no space stands in a word
no_space_within : (before word words k : List ℕ) → IsWord word → before ++ word ≡ words ++ 32 ∷ k → length before ≤ length words → ⊥
no_space_within before word words k whole e le = elim (two_fronts before words word (32 ∷ k) e) [
  | inl ([], f, g) ↦ (subst IsWord (sym g) whole).0 refl
  | inl (b ∷ j, f, g) ↦ let long = ap length f in let sum = length-append words (b ∷ j) in absurd (omega (arith, long, sum, le))
  | inr (j, f, g) ↦ (word_back j (32 ∷ k) (subst IsWord g whole)).0 refl
]

-- a reading that continues later words continues an earlier one
reached : (Is : List ℕ → Type 0) (before word rest words more : List ℕ) → IsWord word → EndsWord rest → before ++ (word ++ rest) ≡ words ++ 32 ∷ more → length before ≤ length words → Continues Is words → Continues Is (before ++ word)
reached Is before word rest words more whole ends e le (r, f, is) = elim (two_fronts (before ++ word) words rest (32 ∷ more) (append_assoc before word rest ∙ e)) [
  | inl ([], g, h) ↦ (r, f, subst (λ (y : List ℕ). Is (y ++ r)) (sym (g ∙ append-nil words)) is)
  | inl (b ∷ k, g, h) ↦ let space : b ≡ 32 = cc in absurd (no_space_within before word words k whole (g ∙ ap (λ (c : ℕ). words ++ c ∷ k) space) le)
  | inr (k, g, h) ↦ (k ++ r, ends_behind k (32 ∷ more) r (subst EndsWord h ends) f, subst Is (ap (λ (y : List ℕ). y ++ r) g ∙ append_assoc (before ++ word) k r) is)
]

later : (Is : List ℕ → Type 0) (line : List ℕ) (at : ℕ) (before more : List ℕ) → HasLostWord Is line at → line ≡ before ++ more → at < length before → IsBefore Is before → ⊥
later Is line at before more a e lt (inl none) = absurd (let long = ap length none in omega (arith, long, lt))
later Is line at before more a e lt (inr (words, f, on)) =
    let whole : a.before ++ (a.word ++ a.rest) ≡ words ++ 32 ∷ more = sym a.parts ∙ e ∙ ap (λ (y : List ℕ). y ++ more) f ∙ spaced words more in
    let long = ap length f in
    let sum = length-append words (32 ∷ []) in
    a.lost (reached Is a.before a.word a.rest words more a.whole a.ends whole (omega (arith, a.place, lt, long, sum)) on)

not_early : (Is : List ℕ → Type 0) (line : List ℕ) (at : ℕ) → HasLostWord Is line at → Continues Is line → ⊥
not_early Is line at a (r, f, is) =
    let whole : line ++ r ≡ (a.before ++ a.word) ++ (a.rest ++ r) = ap (λ (y : List ℕ). y ++ r) (a.parts ∙ sym (append_assoc a.before a.word a.rest)) ∙ append_assoc (a.before ++ a.word) a.rest r in
    let ends : EndsWord (a.rest ++ r) = ends_behind a.rest [] r (subst EndsWord (sym (append-nil a.rest)) a.ends) f in
    a.lost (a.rest ++ r, ends, subst Is whole is)

-- a line is bad at one byte
pub one_place : (Is : List ℕ → Type 0) (line : List ℕ) (a b : ℕ) → IsBadAt Is line a → IsBadAt Is line b → a ≡ b
one_place Is line a b (inl x) (inl y) = elim (cases_lt a b) [
  | inl lt ↦ absurd (later Is line a y.before (y.word ++ y.rest) x y.parts (omega (arith, lt, y.place)) y.read)
  | inr le ↦ elim (cases_lt b a) [
    | inl gt ↦ absurd (later Is line b x.before (x.word ++ x.rest) y x.parts (omega (arith, gt, x.place)) x.read)
    | inr ge ↦ omega (arith, le, ge)
  ]
]
one_place Is line a b (inl x) (inr y) = absurd (not_early Is line a x y.read)
one_place Is line a b (inr x) (inl y) = absurd (not_early Is line b y x.read)
one_place Is line a b (inr x) (inr y) = x.place ∙ sym y.place

-- a line with a reading isn't bad
pub no_place : (Is : List ℕ → Type 0) (line : List ℕ) (at : ℕ) → Is line → IsBadAt Is line at → ⊥
no_place Is line at is (inl x) = not_early Is line at x ([], tt, subst Is (sym (append-nil line)) is)
no_place Is line at is (inr x) = x.none is

-- one byte further in a line whose words up to here are read
next_byte : (Is : List ℕ → Type 0) (line : List ℕ) → ((at : ℕ) → IsBadAt Is line at → ⊥) → (before word : List ℕ) (b : ℕ) (rest : List ℕ) → line ≡ before ++ (word ++ b ∷ rest) → IsWord word → IsBefore Is before
    → ((earlier front : List ℕ) → line ≡ earlier ++ (front ++ rest) → IsWord front → IsBefore Is earlier → ⊥) → (e : Bool) → eqb b 32 ≡ e → ⊥
next_byte Is line nowhere before word b rest e whole read further true is =
    let space : b ≡ 32 = eqb-true b 32 is in
    nowhere (length before) (inl (record {
      before = before;
      word = word;
      rest = b ∷ rest;
      parts = e;
      place = refl;
      whole = whole;
      ends = space;
      read = read;
      lost = λ on.
          let parts : line ≡ ((before ++ word) ++ 32 ∷ []) ++ ([] ++ rest) = e ∙ ap (λ (c : ℕ). before ++ (word ++ c ∷ rest)) space ∙ sym (append_assoc before word (32 ∷ rest)) ∙ sym (spaced (before ++ word) rest) in
          further ((before ++ word) ++ 32 ∷ []) [] parts tt (inr (before ++ word, refl, on));
    }))
next_byte Is line nowhere before word b rest e whole read further false is =
    let parts : line ≡ before ++ ((word ++ b ∷ []) ++ rest) = e ∙ ap (λ (y : List ℕ). before ++ y) (sym (append_assoc word (b ∷ []) rest)) in
    further before (word ++ b ∷ []) parts (word_join word (b ∷ []) whole (eqb-false b 32 is, tt)) read

-- a line whose words up to here are read, and a front of the next
walk : (Is : List ℕ → Type 0) (line : List ℕ) → (Is line → ⊥) → ((at : ℕ) → IsBadAt Is line at → ⊥) → (rest before word : List ℕ) → line ≡ before ++ (word ++ rest) → IsWord word → IsBefore Is before → ⊥
walk Is line none nowhere [] before word e whole read =
    let all : line ≡ before ++ word = e ∙ ap (λ (y : List ℕ). before ++ y) (append-nil word) in
    nowhere (length before) (inl (record { before = before; word = word; rest = []; parts = e; place = refl; whole = whole; ends = tt; read = read; lost = λ on. nowhere (length line) (inr (record { place = refl; read = subst (Continues Is) (sym all) on; none = none })) }))
walk Is line none nowhere (b ∷ rest) before word e whole read =
    next_byte Is line nowhere before word b rest e whole read (λ earlier front parts word_is read_is. walk Is line none nowhere rest earlier front parts word_is read_is) (eqb b 32) refl

-- a line without a reading is bad somewhere
pub some_place : (Is : List ℕ → Type 0) (line : List ℕ) → (Is line → ⊥) → ((at : ℕ) → IsBadAt Is line at → ⊥) → ⊥
some_place Is line none nowhere = walk Is line none nowhere line [] [] refl tt (inl refl)

-- where a line stops behind its first word, it is bad
pub place_behind : (Is : List ℕ → Type 0) (line p rest : List ℕ) (left : ℕ) → line ≡ p ++ rest → StopsAt (λ t. Is (p ++ t)) rest left → (at : ℕ) × IsBadAt Is line at × (at + left ≡ length line)
place_behind Is line p rest left e (inl s) =
    let before = (p ++ s.words) ++ 32 ∷ [] in
    let parts : line ≡ before ++ (s.word ++ s.rest) = e ∙ ap (λ (y : List ℕ). p ++ y) s.parts ∙ sym (append_assoc p s.words (32 ∷ (s.word ++ s.rest))) ∙ sym (spaced (p ++ s.words) (s.word ++ s.rest)) in
    let long = ap length parts in
    let sum = length-append before (s.word ++ s.rest) in (
      length before,
      inl (record {
        before = before;
        word = s.word;
        rest = s.rest;
        parts = parts;
        place = refl;
        whole = s.whole;
        ends = s.ends;
        read = let (r, f, is) = s.read in inr (p ++ s.words, refl, (r, f, subst Is (sym (append_assoc p s.words r)) is));
        lost = λ on.
            let (r, f, is) = on in
            let same : (before ++ s.word) ++ r ≡ p ++ ((s.words ++ 32 ∷ s.word) ++ r) =
            ap (λ (y : List ℕ). y ++ r) (spaced (p ++ s.words) s.word ∙ append_assoc p s.words (32 ∷ s.word)) ∙ append_assoc p (s.words ++ 32 ∷ s.word) r in
            s.lost (r, f, subst Is same is);
      }),
      omega (arith, long, sum, s.place),
    )
place_behind Is line p rest left e (inr s) = (
  length line,
  inr (record {
    place = refl;
    read = let (r, f, is) = s.read in (r, f, subst Is (sym (append_assoc p rest r) ∙ ap (λ (y : List ℕ). y ++ r) (sym e)) is);
    none = λ is. s.none (subst Is e is);
  }),
  omega (arith, s.place),
)

-- a line whose first word no reading continues
pub place_first : (Is : List ℕ → Type 0) (line word rest : List ℕ) → line ≡ word ++ rest → IsWord word → EndsWord rest → (Continues Is word → ⊥) → (at : ℕ) × IsBadAt Is line at × (at + length line ≡ length line)
place_first Is line word rest e whole ends lost =
    (0, inl (record { before = []; word = word; rest = rest; parts = e; place = refl; whole = whole; ends = ends; read = inl refl; lost = lost }), omega arith)
