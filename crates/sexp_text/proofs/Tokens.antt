-- A text of such tokens is read so.
use Rattle.std.proofs.Common.{◌≡◌, ℕ, ◌+◌, List, [], ◌∷◌, ◌++◌, length, Option, Some, None, refl, sym, ap, ◌∙◌, append_assoc, arith, inl, inr, length-append}
use Rattle.std.specs.List.{flat_map, AllByRecursion}
use Rattle.std.proofs.lemmas.List.Concat.{flat_map-cons}
use Rattle.sexp_text.specs.declared.token.Token.{Token}
use Rattle.sexp_text.specs.declared.token.TokenKind.TheVariants.{Word}
use Rattle.sexp_text.specs.declared.modes.Before.{Before}
use Rattle.sexp_text.specs.declared.modes.Before.TheVariants.{Other, Bracket, Keyword}
use Rattle.sexp_text.specs.declared.modes.Class.{Class}
use Rattle.sexp_text.specs.declared.modes.Class.TheVariants as is
use Rattle.sexp_text.specs.declared.modes.Mode.{Mode}
use Rattle.sexp_text.specs.declared.modes.Mode.TheVariants as mode
use Rattle.sexp_text.specs.Scan.{begun, ended, spell, token, gap_step, word_step, quoted_step, scan}
use Rattle.sexp_text.specs.Words.{class, IsBlank, IsInner, Piece, Bare, Quoted, spelled, IsPiece, IsWord, IsOver}
use Rattle.sexp_text.specs.Text.{after}
use Rattle.sexp_text.proofs.Steps.{scan_gap, scan_word, scan_quoted}
use Rattle.sexp_text.proofs.Classes.{quote_class, not_quote}
use Rattle.sexp_text.proofs.Spelling.{spelling, spelling-append, spelling_bare, spelling_quoted, word_next}

pub place_is : (ts : List Token) (m : Mode) (p q : ℕ) (bytes : List ℕ) → p ≡ q → scan ts m p bytes ≡ scan ts m q bytes
place_is ts m p q bytes e = ap (λ (x : ℕ). scan ts m x bytes) e

spelt_is : (ts : List Token) (s : ℕ) (u v : Option ℕ) (p : ℕ) (bytes : List ℕ) → u ≡ v → scan ts (mode.Word s u) p bytes ≡ scan ts (mode.Word s v) p bytes
spelt_is ts s u v p bytes e = ap (λ (x : Option ℕ). scan ts (mode.Word s x) p bytes) e

pub over_gap : (gap rest : List ℕ) (ts : List Token) (f : Before) (p : ℕ) → AllByRecursion IsBlank gap → scan ts (mode.Gap f) p (gap ++ rest) ≡ scan ts (mode.Gap f) (p + length gap) rest
over_gap [] rest ts f p h = place_is ts (mode.Gap f) p (p + length {A = ℕ} []) rest (omega arith)
over_gap (b ∷ gap) rest ts f p h =
    elim h.0 [
      | inl e ↦ scan_gap b (gap ++ rest) ts f p is.Blank e ∙ over_gap gap rest ts f (p + 1) h.1 ∙ place_is ts (mode.Gap f) (p + 1 + length gap) (p + length (b ∷ gap)) rest (omega arith)
      | inr e ↦ scan_gap b (gap ++ rest) ts f p is.Break e ∙ over_gap gap rest ts f (p + 1) h.1 ∙ place_is ts (mode.Gap f) (p + 1 + length gap) (p + length (b ∷ gap)) rest (omega arith)
    ]

inner_step : (c : Class) (s o : ℕ) (u : Option ℕ) (b : ℕ) → (c ≡ is.Quote → ⊥) → (c ≡ is.Break → ⊥) → quoted_step s o u b c ≡ mode.Quoted s o (spell u b)
inner_step is.Quote s o u b h k = absurd (h refl)
inner_step is.Break s o u b h k = absurd (k refl)
inner_step is.Blank s o u b h k = refl
inner_step is.Left s o u b h k = refl
inner_step is.Right s o u b h k = refl
inner_step is.Plain s o u b h k = refl

pub over_inner : (q rest : List ℕ) (ts : List Token) (s o : ℕ) (u : Option ℕ) (p : ℕ) → AllByRecursion IsInner q
    → scan ts (mode.Quoted s o u) p (q ++ rest) ≡ scan ts (mode.Quoted s o (spelling u q)) (p + length q) rest
over_inner [] rest ts s o u p h = place_is ts (mode.Quoted s o u) p (p + length {A = ℕ} []) rest (omega arith)
over_inner (b ∷ q) rest ts s o u p h =
    let m = inner_step (class b) s o u b h.0.0 h.0.1 in
    let k : spelling (spell u b) q ≡ spelling u (b ∷ q) = rw (not_quote b h.0.0) refl in
    scan_quoted b (q ++ rest) ts s o u p (class b) refl ∙ ap (λ (x : Mode). scan ts x (p + 1) (q ++ rest)) m ∙ over_inner q rest ts s o (spell u b) (p + 1) h.1
    ∙ place_is ts (mode.Quoted s o (spelling (spell u b) q)) (p + 1 + length q) (p + length (b ∷ q)) rest (omega arith)
    ∙ ap (λ (x : Option ℕ). scan ts (mode.Quoted s o x) (p + length (b ∷ q)) rest) k

over_quote : (q rest : List ℕ) (ts : List Token) (s o : ℕ) (u : Option ℕ) (p : ℕ) → AllByRecursion IsInner q
    → scan ts (mode.Quoted s o u) p ((q ++ 34 ∷ []) ++ rest) ≡ scan ts (mode.Word s (spelling u q)) (p + length q + 1) rest
over_quote q rest ts s o u p h =
    ap (λ (x : List ℕ). scan ts (mode.Quoted s o u) p x) (append_assoc q (34 ∷ []) rest) ∙ over_inner q (34 ∷ rest) ts s o u p h ∙ scan_quoted 34 rest ts s o (spelling u q) (p + length q) is.Quote quote_class

quoted_len : (q : List ℕ) (p : ℕ) → p + 1 + length q + 1 ≡ p + length (34 ∷ (q ++ 34 ∷ []))
quoted_len q p = omega (arith, length-append q (34 ∷ []))

quoted_part : (q rest : List ℕ) (ts : List Token) (s o : ℕ) (u : Option ℕ) (p : ℕ) → AllByRecursion IsInner q
    → scan ts (mode.Quoted s o u) (p + 1) ((q ++ 34 ∷ []) ++ rest) ≡ scan ts (mode.Word s (spelling u (34 ∷ (q ++ 34 ∷ [])))) (p + length (34 ∷ (q ++ 34 ∷ []))) rest
quoted_part q rest ts s o u p h =
    over_quote q rest ts s o u (p + 1) h ∙ place_is ts (mode.Word s (spelling u q)) _ _ rest (quoted_len q p)
    ∙ spelt_is ts s (spelling u q) (spelling u (34 ∷ (q ++ 34 ∷ []))) (p + length (34 ∷ (q ++ 34 ∷ []))) rest (sym (spelling_quoted u q))

-- a part goes on with a word
pub over_piece : (x : Piece) (rest : List ℕ) (ts : List Token) (s : ℕ) (u : Option ℕ) (p : ℕ) → IsPiece x
    → scan ts (mode.Word s u) p (spelled x ++ rest) ≡ scan ts (mode.Word s (spelling u (spelled x))) (p + length (spelled x)) rest
over_piece (Bare b) rest ts s u p h = scan_word b rest ts s u p is.Plain h ∙ spelt_is ts s (spell u b) (spelling u (b ∷ [])) (p + 1) rest (sym (spelling_bare u b h))
over_piece (Quoted q) rest ts s u p h = scan_word 34 ((q ++ 34 ∷ []) ++ rest) ts s u p is.Quote quote_class ∙ quoted_part q rest ts s p u p h

-- a part begins a word
pub first_piece : (x : Piece) (rest : List ℕ) (ts : List Token) (f : Before) (p : ℕ) → (f ≡ Keyword → ⊥) → IsPiece x
    → scan ts (mode.Gap f) p (spelled x ++ rest) ≡ scan ts (mode.Word p (spelling (begun f) (spelled x))) (p + length (spelled x)) rest
first_piece (Bare b) rest ts Other p n h = scan_gap b rest ts Other p is.Plain h ∙ spelt_is ts p (spell None b) (spelling None (b ∷ [])) (p + 1) rest (sym (spelling_bare None b h))
first_piece (Bare b) rest ts Bracket p n h = scan_gap b rest ts Bracket p is.Plain h ∙ spelt_is ts p (spell (Some 0) b) (spelling (Some 0) (b ∷ [])) (p + 1) rest (sym (spelling_bare (Some 0) b h))
first_piece (Quoted q) rest ts Other p n h = scan_gap 34 ((q ++ 34 ∷ []) ++ rest) ts Other p is.Quote quote_class ∙ quoted_part q rest ts p p None p h
first_piece (Quoted q) rest ts Bracket p n h = scan_gap 34 ((q ++ 34 ∷ []) ++ rest) ts Bracket p is.Quote quote_class ∙ quoted_part q rest ts p p (Some 0) p h
first_piece x rest ts Keyword p n h = absurd (n refl)

pub over_pieces : (xs : List Piece) (rest : List ℕ) (ts : List Token) (s : ℕ) (u : Option ℕ) (p : ℕ) → AllByRecursion IsPiece xs
    → scan ts (mode.Word s u) p (flat_map spelled xs ++ rest) ≡ scan ts (mode.Word s (spelling u (flat_map spelled xs))) (p + length (flat_map spelled xs)) rest
over_pieces [] rest ts s u p h = place_is ts (mode.Word s u) p (p + length {A = ℕ} []) rest (omega arith)
over_pieces (x ∷ xs) rest ts s u p h =
    let c = flat_map-cons spelled x xs in
    let e : flat_map spelled (x ∷ xs) ++ rest ≡ spelled x ++ (flat_map spelled xs ++ rest) = ap (λ (y : List ℕ). y ++ rest) c ∙ append_assoc (spelled x) (flat_map spelled xs) rest in
    let l : p + length (spelled x) + length (flat_map spelled xs) ≡ p + length (flat_map spelled (x ∷ xs)) = omega (arith, length-append (spelled x) (flat_map spelled xs), ap length c) in
    let k : spelling (spelling u (spelled x)) (flat_map spelled xs) ≡ spelling u (flat_map spelled (x ∷ xs)) = sym (spelling-append u (spelled x) (flat_map spelled xs)) ∙ ap (λ (y : List ℕ). spelling u y) (sym c) in
    ap (λ (y : List ℕ). scan ts (mode.Word s u) p y) e ∙ over_piece x (flat_map spelled xs ++ rest) ts s u p h.0
    ∙ over_pieces xs rest ts s (spelling u (spelled x)) (p + length (spelled x)) h.1
    ∙ place_is ts (mode.Word s (spelling (spelling u (spelled x)) (flat_map spelled xs))) _ _ rest l
    ∙ spelt_is ts s _ _ (p + length (flat_map spelled (x ∷ xs))) rest k

over_step : (c : Class) (ts : List Token) (s : ℕ) (u : Option ℕ) (p b : ℕ) → (c ≡ is.Quote → ⊥) → (c ≡ is.Plain → ⊥) → word_step ts s u p b c ≡ gap_step (ts ++ token Word s p ∷ []) (ended u) p b c
over_step is.Quote ts s u p b h k = absurd (h refl)
over_step is.Plain ts s u p b h k = absurd (k refl)
over_step is.Blank ts s u p b h k = refl
over_step is.Break ts s u p b h k = refl
over_step is.Left ts s u p b h k = refl
over_step is.Right ts s u p b h k = refl

pub word_over : (rest : List ℕ) (ts : List Token) (s : ℕ) (u : Option ℕ) (p : ℕ) → IsOver rest → scan ts (mode.Word s u) p rest ≡ scan (ts ++ token Word s p ∷ []) (mode.Gap (ended u)) p rest
unfolding scan
word_over [] ts s u p h = refl
word_over (b ∷ bs) ts s u p h =
    scan_word b bs ts s u p (class b) refl ∙ ap (λ (x : List Token × Mode). scan x.0 x.1 (p + 1) bs) (over_step (class b) ts s u p b h.0 h.1)
    ∙ sym (scan_gap b bs (ts ++ token Word s p ∷ []) (ended u) p (class b) refl)

pub over_word : (bytes rest : List ℕ) (ts : List Token) (f : Before) (p : ℕ) → (f ≡ Keyword → ⊥) → IsWord bytes → IsOver rest
    → scan ts (mode.Gap f) p (bytes ++ rest) ≡ scan (ts ++ token Word p (p + length bytes) ∷ []) (mode.Gap (after f Word bytes)) (p + length bytes) rest
over_word bytes rest ts f p n w o =
    let e : bytes ++ rest ≡ spelled w.first ++ (flat_map spelled w.others ++ rest) = ap (λ (y : List ℕ). y ++ rest) w.text ∙ append_assoc (spelled w.first) (flat_map spelled w.others) rest in
    let l : p + length (spelled w.first) + length (flat_map spelled w.others) ≡ p + length bytes = omega (arith, length-append (spelled w.first) (flat_map spelled w.others), ap length w.text) in
    let k : spelling (spelling (begun f) (spelled w.first)) (flat_map spelled w.others) ≡ spelling (begun f) bytes =
    sym (spelling-append (begun f) (spelled w.first) (flat_map spelled w.others)) ∙ ap (λ (y : List ℕ). spelling (begun f) y) (sym w.text) in
    ap (λ (y : List ℕ). scan ts (mode.Gap f) p y) e ∙ first_piece w.first (flat_map spelled w.others ++ rest) ts f p n w.first_formed
    ∙ over_pieces w.others rest ts p (spelling (begun f) (spelled w.first)) (p + length (spelled w.first)) w.formed
    ∙ place_is ts (mode.Word p (spelling (spelling (begun f) (spelled w.first)) (flat_map spelled w.others))) _ _ rest l
    ∙ spelt_is ts p _ _ (p + length bytes) rest k
    ∙ word_over rest ts p (spelling (begun f) bytes) (p + length bytes) o
    ∙ ap (λ (g : Before). scan (ts ++ token Word p (p + length bytes) ∷ []) (mode.Gap g) (p + length bytes) rest) (word_next f bytes n)
