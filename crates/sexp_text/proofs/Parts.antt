-- A byte or a part before what is read.
use Rattle.std.proofs.Common.{◌≡◌, ℕ, ◌+◌, List, [], ◌∷◌, ◌++◌, length, Option, Some, None, refl, sym, ap, subst, ◌∙◌, append_assoc, arith, inl, inr, length-append}
use Rattle.std.specs.List.{flat_map}
use Rattle.std.proofs.lemmas.List.{append-nil}
use Rattle.std.proofs.lemmas.List.Concat.{flat_map-cons}
use Rattle.sexp_text.specs.declared.token.Token.{Token}
use Rattle.sexp_text.specs.declared.token.TokenKind.TheVariants.{Word}
use Rattle.sexp_text.specs.declared.modes.Before.{Before}
use Rattle.sexp_text.specs.declared.modes.Before.TheVariants.{Other, Bracket, Keyword}
use Rattle.sexp_text.specs.declared.modes.Class.TheVariants as is
use Rattle.sexp_text.specs.Scan.{begun, ended, token}
use Rattle.sexp_text.specs.Words.{class, IsBlank, Piece, Quoted, spelled, IsPiece, IsWord, IsOver}
use Rattle.sexp_text.specs.Text.{after, IsToken, TokensThen, HasOpenQuote, BreaksAt}
use Rattle.sexp_text.proofs.Classes.{quote_is}
use Rattle.sexp_text.proofs.Spelling.{spelling, spelling-append, spelling_quoted, word_next}
use Rattle.sexp_text.proofs.Readings.{Follows, FromGap, FromWord, Closes}

blank_first : (o : Option ℕ) (f : Before) (b p : ℕ) (text : List ℕ) → IsBlank b → Follows o f (p + 1) text → Follows o f p (b ∷ text)
blank_first None f b p text h t = (h, t)
blank_first (Some at) Other b p text h t =
    record { gap = b ∷ t.gap; pieces = t.pieces; rest = t.rest; blank = (h, t.blank); formed = t.formed; parts = ap (λ (x : List ℕ). b ∷ x) t.parts; unended = t.unended; place = omega (arith, t.place) }
blank_first (Some at) Bracket b p text h t =
    record { gap = b ∷ t.gap; pieces = t.pieces; rest = t.rest; blank = (h, t.blank); formed = t.formed; parts = ap (λ (x : List ℕ). b ∷ x) t.parts; unended = t.unended; place = omega (arith, t.place) }
blank_first (Some at) Keyword b p text h t =
    record { gap = b ∷ t.gap; byte = t.byte; rest = t.rest; blank = (h, t.blank); bare = t.bare; parts = ap (λ (x : List ℕ). b ∷ x) t.parts; place = omega (arith, t.place) }

pub blank_more : (o : Option ℕ) (f : Before) (b p : ℕ) (ts : List Token) (text : List ℕ) → IsBlank b → TokensThen (Follows o) f (p + 1) ts text → TokensThen (Follows o) f p ts (b ∷ text)
blank_more o f b p [] text h t = blank_first o f b p text h t
blank_more o f b p (t ∷ ts) text h has =
    let n = has.2 in
    (has.0, has.1, record { gap = b ∷ n.gap; parts = ap (λ (x : List ℕ). b ∷ x) n.parts; blank = (h, n.blank); start = omega (arith, n.start); end = n.end; is = n.is }, has.3)

-- the bytes of a part and more parts
joined_parts : (x : Piece) (xs : List Piece) (text rest more : List ℕ) → text ≡ spelled x ++ rest → rest ≡ flat_map spelled xs ++ more → text ≡ flat_map spelled (x ∷ xs) ++ more
joined_parts x xs text rest more e g =
    e ∙ ap (λ (y : List ℕ). spelled x ++ y) g ∙ sym (append_assoc (spelled x) (flat_map spelled xs) more) ∙ ap (λ (y : List ℕ). y ++ more) (sym (flat_map-cons spelled x xs))

joined_length : (x : Piece) (xs : List Piece) (p : ℕ) → p + length (spelled x) + length (flat_map spelled xs) ≡ p + length (flat_map spelled (x ∷ xs))
joined_length x xs p = omega (arith, length-append (spelled x) (flat_map spelled xs), ap length (flat_map-cons spelled x xs))

joined_spelling : (x : Piece) (xs : List Piece) (u : Option ℕ) → spelling (spelling u (spelled x)) (flat_map spelled xs) ≡ spelling u (flat_map spelled (x ∷ xs))
joined_spelling x xs u = sym (spelling-append u (spelled x) (flat_map spelled xs)) ∙ ap (λ (y : List ℕ). spelling u y) (sym (flat_map-cons spelled x xs))

-- a part in a word
pub piece_more : (o : Option ℕ) (x : Piece) (first : List Token) (s : ℕ) (u : Option ℕ) (p : ℕ) (us : List Token) (text rest : List ℕ) → IsPiece x → text ≡ spelled x ++ rest
    → FromWord o first s (spelling u (spelled x)) (p + length (spelled x)) us rest → FromWord o first s u p us text
piece_more o x first s u p us text rest h parts (inl w) =
    let l = joined_length x w.pieces p in
    let k = joined_spelling x w.pieces u in
    inl (record {
      pieces = x ∷ w.pieces;
      rest = w.rest;
      ts = w.ts;
      formed = (h, w.formed);
      parts = joined_parts x w.pieces text rest w.rest parts w.parts;
      over = w.over;
      joined = w.joined ∙ ap (λ (n : ℕ). first ++ token Word s n ∷ w.ts) l;
      has = subst (λ (n : ℕ). TokensThen (Follows o) (ended (spelling u (flat_map spelled (x ∷ w.pieces)))) n w.ts w.rest) l
          (subst (λ (v : Option ℕ). TokensThen (Follows o) (ended v) (p + length (spelled x) + length (flat_map spelled w.pieces)) w.ts w.rest) k w.has);
    })
piece_more o x first s u p us text rest h parts (inr w) =
    inr (record {
      pieces = x ∷ w.pieces;
      rest = w.rest;
      formed = (h, w.formed);
      parts = joined_parts x w.pieces text rest (34 ∷ w.rest) parts w.parts;
      unended = w.unended;
      told = w.told ∙ ap (λ (n : ℕ). Some n) (joined_length x w.pieces p);
      same = w.same;
    })

word_is : (f : Before) (bytes rest : List ℕ) → (f ≡ Keyword → ⊥) → IsWord bytes → IsOver rest → IsToken f Word bytes rest
word_is Other bytes rest n w o = (w, o)
word_is Bracket bytes rest n w o = (w, o)
word_is Keyword bytes rest n w o = absurd (n refl)

pub breaks_is : (f : Before) (p at : ℕ) (text : List ℕ) → (f ≡ Keyword → ⊥) → HasOpenQuote p text at → BreaksAt at f p text
breaks_is Other p at text n h = h
breaks_is Bracket p at text n h = h
breaks_is Keyword p at text n h = absurd (n refl)

pub broken : (o : Option ℕ) (at : ℕ) (first : List Token) (f : Before) (p : ℕ) (us : List Token) (text : List ℕ) → o ≡ Some at → us ≡ first → BreaksAt at f p text → FromGap o first f p us text
broken o at first f p us text told same h =
    record { ts = []; joined = same ∙ sym (append-nil first); has = subst (λ (x : Option ℕ). Follows x f p text) (sym told) h }

-- a part behind a gap
pub piece_first : (o : Option ℕ) (x : Piece) (first : List Token) (f : Before) (p : ℕ) (us : List Token) (text rest : List ℕ) → (f ≡ Keyword → ⊥) → IsPiece x → text ≡ spelled x ++ rest
    → FromWord o first p (spelling (begun f) (spelled x)) (p + length (spelled x)) us rest → FromGap o first f p us text
piece_first o x first f p us text rest n h parts (inl w) =
    let bytes : List ℕ = spelled x ++ flat_map spelled w.pieces in
    let l : p + length (spelled x) + length (flat_map spelled w.pieces) ≡ p + length (spelled x ++ flat_map spelled w.pieces) = omega (arith, length-append (spelled x) (flat_map spelled w.pieces)) in
    let e : text ≡ [] ++ ((spelled x ++ flat_map spelled w.pieces) ++ w.rest) = parts ∙ ap (λ (y : List ℕ). spelled x ++ y) w.parts ∙ sym (append_assoc (spelled x) (flat_map spelled w.pieces) w.rest) in
    let k : ended (spelling (spelling (begun f) (spelled x)) (flat_map spelled w.pieces)) ≡ after f Word (spelled x ++ flat_map spelled w.pieces) =
    ap (λ (v : Option ℕ). ended v) (sym (spelling-append (begun f) (spelled x) (flat_map spelled w.pieces))) ∙ word_next f (spelled x ++ flat_map spelled w.pieces) n in
    record {
      ts = token Word p (p + length (spelled x) + length (flat_map spelled w.pieces)) ∷ w.ts;
      joined = w.joined;
      has = (
        spelled x ++ flat_map spelled w.pieces,
        w.rest,
        record {
          gap = [];
          parts = e;
          blank = tt;
          start = omega arith;
          end = l;
          is = word_is f (spelled x ++ flat_map spelled w.pieces) w.rest n (record { first = x; others = w.pieces; first_formed = h; formed = w.formed; text = refl }) w.over;
        },
        subst (λ (g : Before). TokensThen (Follows o) g (p + length (spelled x) + length (flat_map spelled w.pieces)) w.ts w.rest) k w.has,
      );
    }
piece_first o x first f p us text rest n h parts (inr w) =
    broken o (p + length (spelled x) + length (flat_map spelled w.pieces)) first f p us text w.told w.same
    (breaks_is f p (p + length (spelled x) + length (flat_map spelled w.pieces)) text n (record {
      gap = [];
      pieces = x ∷ w.pieces;
      rest = w.rest;
      blank = tt;
      formed = (h, w.formed);
      parts = joined_parts x w.pieces text rest (34 ∷ w.rest) parts w.parts;
      unended = w.unended;
      place = let l = joined_length x w.pieces p in omega (arith, l);
    }))

pub quoted_parts : (b : ℕ) (inner rest bs : List ℕ) → class b ≡ is.Quote → bs ≡ inner ++ 34 ∷ rest → b ∷ bs ≡ spelled (Quoted inner) ++ rest
quoted_parts b inner rest bs e parts =
    let h = quote_is b e in
    ap (λ (x : ℕ). x ∷ bs) h ∙ ap (λ (xs : List ℕ). 34 ∷ xs) (parts ∙ sym (append_assoc inner (34 ∷ []) rest))

-- a quoted part that ends is a part of the word
pub closed_word : (o : Option ℕ) (first : List Token) (s : ℕ) (u : Option ℕ) (p : ℕ) (us : List Token) (bs : List ℕ) → (q : Closes o first s u (p + 1) us bs)
    → FromWord o first s (spelling u (spelled (Quoted q.inner))) (p + length (spelled (Quoted q.inner))) us q.rest
closed_word o first s u p us bs q =
    let l : p + 1 + length q.inner + 1 ≡ p + length (spelled (Quoted q.inner)) = omega (arith, length-append q.inner (34 ∷ [])) in
    subst (λ (n : ℕ). FromWord o first s (spelling u (spelled (Quoted q.inner))) n us q.rest) l
    (subst (λ (v : Option ℕ). FromWord o first s v (p + 1 + length q.inner + 1) us q.rest) (sym (spelling_quoted u q.inner)) q.word)
