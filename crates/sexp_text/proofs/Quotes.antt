-- From within a quoted part on: it ends, or it stays open. Then the whole text is read.
use Rattle.std.proofs.Common.{◌≡◌, ℕ, ◌+◌, List, [], ◌∷◌, ◌++◌, length, Option, Some, None, refl, sym, ap, subst, ◌∙◌, arith, inl, inr}
use Rattle.std.proofs.lemmas.List.{append-nil}
use Rattle.sexp_text.specs.declared.token.Token.{Token}
use Rattle.sexp_text.specs.declared.token.TokenKind.TheVariants.{Word}
use Rattle.sexp_text.specs.declared.modes.Before.{Before}
use Rattle.sexp_text.specs.declared.modes.Before.TheVariants.{Other}
use Rattle.sexp_text.specs.declared.modes.Class.{Class}
use Rattle.sexp_text.specs.declared.modes.Class.TheVariants as is
use Rattle.sexp_text.specs.declared.modes.Mode.TheVariants as mode
use Rattle.sexp_text.specs.Scan.{spell, ended, token, quoted_step, scan}
use Rattle.sexp_text.specs.Words.{class, IsInner, IsUnended}
use Rattle.sexp_text.specs.Text.{TokensThen}
use Rattle.sexp_text.proofs.Classes.{quote_is, quote_class, not_quote}
use Rattle.sexp_text.proofs.Spelling.{spelling}
use Rattle.sexp_text.proofs.Steps.{scan_gap, scan_word, scan_quoted, scan_broken}
use Rattle.sexp_text.proofs.Readings.{Follows, FromWord, FromQuote}
use Rattle.sexp_text.proofs.Found.{read, Reading, gap_case, word_case, same_list, same_fault}

heads : (a b : ℕ) (xs ys : List ℕ) → a ∷ xs ≡ b ∷ ys → (a ≡ b) × (xs ≡ ys)
heads a b xs ys e = (cc, cc)

pub unended_nil : IsUnended []
unended_nil [] more h parts = absurd cc
unended_nil (q ∷ qs) more h parts = absurd cc

pub unended_break : (b : ℕ) (bs : List ℕ) → class b ≡ is.Break → IsUnended (b ∷ bs)
unended_break b bs e [] more h parts = let x = sym e ∙ ap class (heads b 34 bs more parts).0 ∙ quote_class in absurd cc
unended_break b bs e (q ∷ qs) more h parts = h.0.1 (ap class (sym (heads b q bs (qs ++ 34 ∷ more) parts).0) ∙ e)

pub unended_more : (b : ℕ) (bs : List ℕ) → IsInner b → IsUnended bs → IsUnended (b ∷ bs)
unended_more b bs h u [] more f parts = h.0 (ap class (heads b 34 bs more parts).0 ∙ quote_class)
unended_more b bs h u (q ∷ qs) more f parts = u qs more f.1 (heads b q bs (qs ++ 34 ∷ more) parts).1

pub inner_is : (c : Class) (b : ℕ) → class b ≡ c → (c ≡ is.Quote → ⊥) → (c ≡ is.Break → ⊥) → IsInner b
inner_is c b e h k = (λ x. h (sym e ∙ x), λ x. k (sym e ∙ x))

inner_more : (b : ℕ) (bs : List ℕ) (o : Option ℕ) (first : List Token) (s q : ℕ) (u : Option ℕ) (p : ℕ) (us : List Token) → IsInner b
    → FromQuote o first s q (spell u b) (p + 1) us bs → FromQuote o first s q u p us (b ∷ bs)
inner_more b bs o first s q u p us h (inl w) =
    let l : p + 1 + length w.inner + 1 ≡ p + length (b ∷ w.inner) + 1 = omega arith in
    let k : spelling (spell u b) w.inner ≡ spelling u (b ∷ w.inner) = rw (not_quote b h.0) refl in
    inl (record {
      inner = b ∷ w.inner;
      rest = w.rest;
      formed = (h, w.formed);
      parts = ap (λ (x : List ℕ). b ∷ x) w.parts;
      word = subst (λ (n : ℕ). FromWord o first s (spelling u (b ∷ w.inner)) n us w.rest) l
          (subst (λ (v : Option ℕ). FromWord o first s v (p + 1 + length w.inner + 1) us w.rest) k w.word);
    })
inner_more b bs o first s q u p us h (inr w) = inr (record { unended = unended_more b bs h w.unended; told = w.told; same = w.same })

quoted_case : (c : Class) (b : ℕ) (bs : List ℕ) → class b ≡ c → Reading bs → (o : Option ℕ) (first : List Token) (s q : ℕ) (u : Option ℕ) (p : ℕ) (us : List Token)
    → scan first (quoted_step s q u b c) (p + 1) bs ≡ read us o → FromQuote o first s q u p us (b ∷ bs)
quoted_case is.Quote b bs e r o first s q u p us h =
    let l : p + 1 ≡ p + length {A = ℕ} [] + 1 = omega arith in
    inl (record { inner = []; rest = bs; formed = tt; parts = ap (λ (x : ℕ). x ∷ bs) (quote_is b e); word = subst (λ (k : ℕ). FromWord o first s u k us bs) l (r.word first s u (p + 1) us o h) })
quoted_case is.Break b bs e r o first s q u p us h =
    let d = sym (scan_broken bs first q (p + 1)) ∙ h in
    inr (record { unended = unended_break b bs e; told = same_fault first us (Some q) o d; same = same_list first us (Some q) o d })
quoted_case is.Blank b bs e r o first s q u p us h = inner_more b bs o first s q u p us (inner_is is.Blank b e (λ k. absurd cc) (λ k. absurd cc)) (r.quoted first s q (spell u b) (p + 1) us o h)
quoted_case is.Left b bs e r o first s q u p us h = inner_more b bs o first s q u p us (inner_is is.Left b e (λ k. absurd cc) (λ k. absurd cc)) (r.quoted first s q (spell u b) (p + 1) us o h)
quoted_case is.Right b bs e r o first s q u p us h = inner_more b bs o first s q u p us (inner_is is.Right b e (λ k. absurd cc) (λ k. absurd cc)) (r.quoted first s q (spell u b) (p + 1) us o h)
quoted_case is.Plain b bs e r o first s q u p us h = inner_more b bs o first s q u p us (inner_is is.Plain b e (λ k. absurd cc) (λ k. absurd cc)) (r.quoted first s q (spell u b) (p + 1) us o h)

follows_end : (o : Option ℕ) (f : Before) (p : ℕ) → o ≡ None → Follows o f p []
follows_end o f p e = subst (λ (x : Option ℕ). Follows x f p []) (sym e) tt

pub reading : (text : List ℕ) → Reading text
unfolding scan
reading [] = record {
  gap = λ first f p us o h. record { ts = []; joined = same_list first us None o h ∙ sym (append-nil first); has = follows_end o f p (same_fault first us None o h) };
  word = λ first s u p us o h. let l : p ≡ p + length {A = ℕ} [] = omega arith in inl (record {
    pieces = [];
    rest = [];
    ts = [];
    formed = tt;
    parts = refl;
    over = tt;
    joined = same_list (first ++ token Word s p ∷ []) us None o h ∙ ap (λ (k : ℕ). first ++ token Word s k ∷ []) l;
    has = follows_end o (ended u) (p + length {A = ℕ} []) (same_fault (first ++ token Word s p ∷ []) us None o h);
  });
  quoted = λ first s q u p us o h. inr (record { unended = unended_nil; told = same_fault first us (Some q) o h; same = same_list first us (Some q) o h });
}
reading (b ∷ bs) =
    let r = reading bs in
    record {
      gap = λ first f p us o h. gap_case (class b) f b bs refl r o first p us (sym (scan_gap b bs first f p (class b) refl) ∙ h);
      word = λ first s u p us o h. word_case (class b) b bs refl r o first s u p us (sym (scan_word b bs first s u p (class b) refl) ∙ h);
      quoted = λ first s q u p us o h. quoted_case (class b) b bs refl r o first s q u p us (sym (scan_quoted b bs first s q u p (class b) refl) ∙ h);
    }

-- what is read are tokens of the text, and what follows them
pub tokens_found : (text : List ℕ) (us : List Token) (o : Option ℕ) → scan [] (mode.Gap Other) 0 text ≡ read us o → TokensThen (Follows o) Other 0 us text
tokens_found text us o h =
    let g = (reading text).gap [] Other 0 us o h in
    subst (λ (ts : List Token). TokensThen (Follows o) Other 0 ts text) (sym g.joined) g.has
