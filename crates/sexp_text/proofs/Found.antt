-- From each place in a text its tokens are read, by one byte after another.
use Rattle.std.proofs.Common.{◌≡◌, ℕ, ◌+◌, List, [], ◌∷◌, ◌++◌, length, Option, Some, None, refl, sym, ap, subst, ◌∙◌, append_assoc, arith, inl, inr}
use Rattle.sexp_text.specs.declared.token.Token.{Token}
use Rattle.sexp_text.specs.declared.token.TokenKind.{TokenKind}
use Rattle.sexp_text.specs.declared.token.TokenKind.TheVariants.{Left, Right, Word}
use Rattle.sexp_text.specs.declared.modes.Before.{Before}
use Rattle.sexp_text.specs.declared.modes.Before.TheVariants.{Other, Bracket, Keyword}
use Rattle.sexp_text.specs.declared.modes.Class.{Class}
use Rattle.sexp_text.specs.declared.modes.Class.TheVariants as is
use Rattle.sexp_text.specs.declared.modes.Mode.TheVariants as mode
use Rattle.sexp_text.specs.Scan.{begun, ended, spell, token, gap_step, word_step, scan}
use Rattle.sexp_text.specs.Words.{class, Bare, Quoted, IsOver}
use Rattle.sexp_text.specs.Text.{after, IsToken, TokensThen}
use Rattle.sexp_text.proofs.Classes.{left_is, right_is, quote_is}
use Rattle.sexp_text.proofs.Spelling.{spelling_bare}
use Rattle.sexp_text.proofs.Steps.{scan_broken}
use Rattle.sexp_text.proofs.Readings.{Follows, FromGap, FromWord, FromQuote}
use Rattle.sexp_text.proofs.Parts.{blank_more, piece_more, piece_first, quoted_parts, closed_word, broken, breaks_is}

-- what was read
abbrev pub read : List Token → Option ℕ → List Token × Option ℕ
read us o = (us, o)

pub record Reading (text : List ℕ) : Type 0 where
  pub gap : (first : List Token) (f : Before) (p : ℕ) (us : List Token) (o : Option ℕ) → scan first (mode.Gap f) p text ≡ read us o → FromGap o first f p us text
  pub word : (first : List Token) (s : ℕ) (u : Option ℕ) (p : ℕ) (us : List Token) (o : Option ℕ) → scan first (mode.Word s u) p text ≡ read us o → FromWord o first s u p us text
  pub quoted : (first : List Token) (s q : ℕ) (u : Option ℕ) (p : ℕ) (us : List Token) (o : Option ℕ) → scan first (mode.Quoted s q u) p text ≡ read us o → FromQuote o first s q u p us text

pub same_list : (a b : List Token) (m o : Option ℕ) → read a m ≡ read b o → b ≡ a
same_list a b m o e = sym (ap (λ (x : List Token × Option ℕ). x.0) e)

pub same_fault : (a b : List Token) (m o : Option ℕ) → read a m ≡ read b o → o ≡ m
same_fault a b m o e = sym (ap (λ (x : List Token × Option ℕ). x.1) e)

-- a bracket, or the quote behind the keyword
one_byte : (k : TokenKind) (f : Before) (b : ℕ) (bs : List ℕ) (o : Option ℕ) (first : List Token) (p : ℕ) (us : List Token) → IsToken f k (b ∷ []) bs
    → FromGap o (first ++ token k p (p + 1) ∷ []) (after f k (b ∷ [])) (p + 1) us bs → FromGap o first f p us (b ∷ bs)
one_byte k f b bs o first p us h g =
    record {
      ts = token k p (p + 1) ∷ g.ts;
      joined = g.joined ∙ append_assoc first (token k p (p + 1) ∷ []) g.ts;
      has = (b ∷ [], bs, record { gap = []; parts = refl; blank = tt; start = omega arith; end = refl; is = h }, g.has);
    }

-- a quoted part begins a word
quote_first : (f : Before) (b : ℕ) (bs : List ℕ) → (f ≡ Keyword → ⊥) → class b ≡ is.Quote → (o : Option ℕ) (first : List Token) (p : ℕ) (us : List Token)
    → FromQuote o first p p (begun f) (p + 1) us bs → FromGap o first f p us (b ∷ bs)
quote_first f b bs n e o first p us (inl q) =
    piece_first o (Quoted q.inner) first f p us (b ∷ bs) q.rest n q.formed (quoted_parts b q.inner q.rest bs e q.parts) (closed_word o first p (begun f) p us bs q)
quote_first f b bs n e o first p us (inr q) =
    broken o p first f p us (b ∷ bs) q.told q.same
    (breaks_is f p p (b ∷ bs) n (record { gap = []; pieces = []; rest = bs; blank = tt; formed = tt; parts = ap (λ (x : ℕ). x ∷ bs) (quote_is b e); unended = q.unended; place = omega arith }))

bare_first : (f : Before) (b : ℕ) (bs : List ℕ) → (f ≡ Keyword → ⊥) → class b ≡ is.Plain → (o : Option ℕ) (first : List Token) (p : ℕ) (us : List Token)
    → FromWord o first p (spell (begun f) b) (p + 1) us bs → FromGap o first f p us (b ∷ bs)
bare_first f b bs n e o first p us w =
    piece_first o (Bare b) first f p us (b ∷ bs) bs n e refl (subst (λ (v : Option ℕ). FromWord o first p v (p + 1) us bs) (sym (spelling_bare (begun f) b e)) w)

pub gap_case : (c : Class) (f : Before) (b : ℕ) (bs : List ℕ) → class b ≡ c → Reading bs → (o : Option ℕ) (first : List Token) (p : ℕ) (us : List Token)
    → scan (gap_step first f p b c).0 (gap_step first f p b c).1 (p + 1) bs ≡ read us o → FromGap o first f p us (b ∷ bs)
gap_case is.Blank f b bs e r o first p us h = let g = r.gap first f (p + 1) us o h in record { ts = g.ts; joined = g.joined; has = blank_more o f b p g.ts bs (inl e) g.has }
gap_case is.Break f b bs e r o first p us h = let g = r.gap first f (p + 1) us o h in record { ts = g.ts; joined = g.joined; has = blank_more o f b p g.ts bs (inr e) g.has }
gap_case is.Left f b bs e r o first p us h = one_byte Left f b bs o first p us (ap (λ (x : ℕ). x ∷ []) (left_is b e)) (r.gap (first ++ token Left p (p + 1) ∷ []) Bracket (p + 1) us o h)
gap_case is.Right f b bs e r o first p us h = one_byte Right f b bs o first p us (ap (λ (x : ℕ). x ∷ []) (right_is b e)) (r.gap (first ++ token Right p (p + 1) ∷ []) Other (p + 1) us o h)
gap_case is.Quote Keyword b bs e r o first p us h = one_byte Word Keyword b bs o first p us (ap (λ (x : ℕ). x ∷ []) (quote_is b e)) (r.gap (first ++ token Word p (p + 1) ∷ []) Other (p + 1) us o h)
gap_case is.Quote Other b bs e r o first p us h = quote_first Other b bs (λ k. absurd cc) e o first p us (r.quoted first p p None (p + 1) us o h)
gap_case is.Quote Bracket b bs e r o first p us h = quote_first Bracket b bs (λ k. absurd cc) e o first p us (r.quoted first p p (Some 0) (p + 1) us o h)
gap_case is.Plain Keyword b bs e r o first p us h =
    let d = sym (scan_broken bs first p (p + 1)) ∙ h in
    broken o p first Keyword p us (b ∷ bs) (same_fault first us (Some p) o d) (same_list first us (Some p) o d) (record { gap = []; byte = b; rest = bs; blank = tt; bare = e; parts = refl; place = omega arith })
gap_case is.Plain Other b bs e r o first p us h = bare_first Other b bs (λ k. absurd cc) e o first p us (r.word first p None (p + 1) us o h)
gap_case is.Plain Bracket b bs e r o first p us h = bare_first Bracket b bs (λ k. absurd cc) e o first p us (r.word first p (spell (Some 0) b) (p + 1) us o h)

word_ends : (b : ℕ) (bs : List ℕ) (o : Option ℕ) (first : List Token) (s : ℕ) (u : Option ℕ) (p : ℕ) (us : List Token) → IsOver (b ∷ bs)
    → FromGap o (first ++ token Word s p ∷ []) (ended u) p us (b ∷ bs) → FromWord o first s u p us (b ∷ bs)
word_ends b bs o first s u p us over g =
    let l : p ≡ p + length {A = ℕ} [] = omega arith in
    inl (record {
      pieces = [];
      rest = b ∷ bs;
      ts = g.ts;
      formed = tt;
      parts = refl;
      over = over;
      joined = g.joined ∙ append_assoc first (token Word s p ∷ []) g.ts ∙ ap (λ (k : ℕ). first ++ token Word s k ∷ g.ts) l;
      has = subst (λ (k : ℕ). TokensThen (Follows o) (ended u) k g.ts (b ∷ bs)) l g.has;
    })

not_part : (c : Class) (b : ℕ) → class b ≡ c → (c ≡ is.Quote → ⊥) → (c ≡ is.Plain → ⊥) → (class b ≡ is.Quote → ⊥) × (class b ≡ is.Plain → ⊥)
not_part c b e h k = (λ x. h (sym e ∙ x), λ x. k (sym e ∙ x))

open_quote : (b : ℕ) (bs : List ℕ) (o : Option ℕ) (first : List Token) (s : ℕ) (u : Option ℕ) (p : ℕ) (us : List Token) → class b ≡ is.Quote
    → FromQuote o first s p u (p + 1) us bs → FromWord o first s u p us (b ∷ bs)
open_quote b bs o first s u p us e (inl q) =
    piece_more o (Quoted q.inner) first s u p us (b ∷ bs) q.rest q.formed (quoted_parts b q.inner q.rest bs e q.parts) (closed_word o first s u p us bs q)
open_quote b bs o first s u p us e (inr q) =
    let l : p ≡ p + length {A = ℕ} [] = omega arith in
    inr (record { pieces = []; rest = bs; formed = tt; parts = ap (λ (x : ℕ). x ∷ bs) (quote_is b e); unended = q.unended; told = q.told ∙ ap (λ (k : ℕ). Some k) l; same = q.same })

pub word_case : (c : Class) (b : ℕ) (bs : List ℕ) → class b ≡ c → Reading bs → (o : Option ℕ) (first : List Token) (s : ℕ) (u : Option ℕ) (p : ℕ) (us : List Token)
    → scan (word_step first s u p b c).0 (word_step first s u p b c).1 (p + 1) bs ≡ read us o → FromWord o first s u p us (b ∷ bs)
word_case is.Quote b bs e r o first s u p us h = open_quote b bs o first s u p us e (r.quoted first s p u (p + 1) us o h)
word_case is.Plain b bs e r o first s u p us h =
    piece_more o (Bare b) first s u p us (b ∷ bs) bs e refl (subst (λ (v : Option ℕ). FromWord o first s v (p + 1) us bs) (sym (spelling_bare u b e)) (r.word first s (spell u b) (p + 1) us o h))
word_case is.Blank b bs e r o first s u p us h = word_ends b bs o first s u p us (not_part is.Blank b e (λ k. absurd cc) (λ k. absurd cc)) (gap_case is.Blank (ended u) b bs e r o (first ++ token Word s p ∷ []) p us h)
word_case is.Break b bs e r o first s u p us h = word_ends b bs o first s u p us (not_part is.Break b e (λ k. absurd cc) (λ k. absurd cc)) (gap_case is.Break (ended u) b bs e r o (first ++ token Word s p ∷ []) p us h)
word_case is.Left b bs e r o first s u p us h = word_ends b bs o first s u p us (not_part is.Left b e (λ k. absurd cc) (λ k. absurd cc)) (gap_case is.Left (ended u) b bs e r o (first ++ token Word s p ∷ []) p us h)
word_case is.Right b bs e r o first s u p us h = word_ends b bs o first s u p us (not_part is.Right b e (λ k. absurd cc) (λ k. absurd cc)) (gap_case is.Right (ended u) b bs e r o (first ++ token Word s p ∷ []) p us h)
