-- The tokens of a text, and the quote at fault behind them, are what is read.
use Rattle.std.proofs.Common.{◌≡◌, ℕ, ◌+◌, List, [], ◌∷◌, ◌++◌, length, Option, Some, None, refl, sym, ap, ◌∙◌, append_assoc, arith, inl, inr, ◌⊎◌, length-append}
use Rattle.std.specs.List.{flat_map, AllByRecursion}
use Rattle.std.proofs.lemmas.List.{append-nil}
use Rattle.std.proofs.lemmas.List.Concat.{flat_map-cons}
use Rattle.sexp_text.specs.declared.token.Token.{Token}
use Rattle.sexp_text.specs.declared.modes.Before.{Before}
use Rattle.sexp_text.specs.declared.modes.Before.TheVariants.{Other, Bracket, Keyword}
use Rattle.sexp_text.specs.declared.modes.Class.{Class}
use Rattle.sexp_text.specs.declared.modes.Class.TheVariants as is
use Rattle.sexp_text.specs.declared.modes.Mode.{Mode}
use Rattle.sexp_text.specs.declared.modes.Mode.TheVariants as mode
use Rattle.sexp_text.specs.Scan.{begun, spell, quoted_step, scan}
use Rattle.sexp_text.specs.Words.{class, IsInner, Piece, spelled, IsPiece, IsUnended}
use Rattle.sexp_text.specs.Text.{TokensThen, HasOpenQuote}
use Rattle.sexp_text.proofs.Classes.{quote_is, quote_class}
use Rattle.sexp_text.proofs.Spelling.{spelling}
use Rattle.sexp_text.proofs.Steps.{scan_gap, scan_word, scan_quoted, scan_broken}
use Rattle.sexp_text.proofs.Tokens.{over_gap, over_pieces, first_piece}
use Rattle.sexp_text.proofs.Runs.{tokens_run}
use Rattle.sexp_text.proofs.Readings.{Follows}
use Rattle.sexp_text.proofs.Found.{read}
use Rattle.sexp_text.proofs.Quotes.{inner_is}

inner_or : (b : ℕ) (c : Class) → class b ≡ c → (c ≡ is.Quote) ⊎ ((c ≡ is.Break) ⊎ IsInner b)
inner_or b is.Quote e = inl refl
inner_or b is.Break e = inr (inl refl)
inner_or b is.Blank e = inr (inr (inner_is is.Blank b e (λ k. absurd cc) (λ k. absurd cc)))
inner_or b is.Left e = inr (inr (inner_is is.Left b e (λ k. absurd cc) (λ k. absurd cc)))
inner_or b is.Right e = inr (inr (inner_is is.Right b e (λ k. absurd cc) (λ k. absurd cc)))
inner_or b is.Plain e = inr (inr (inner_is is.Plain b e (λ k. absurd cc) (λ k. absurd cc)))

inner_step : (c : Class) (s o : ℕ) (u : Option ℕ) (b : ℕ) → (c ≡ is.Quote → ⊥) → (c ≡ is.Break → ⊥) → quoted_step s o u b c ≡ mode.Quoted s o (spell u b)
inner_step is.Quote s o u b h k = absurd (h refl)
inner_step is.Break s o u b h k = absurd (k refl)
inner_step is.Blank s o u b h k = refl
inner_step is.Left s o u b h k = refl
inner_step is.Right s o u b h k = refl
inner_step is.Plain s o u b h k = refl

unended_fails : (text : List ℕ) (ts : List Token) (s q : ℕ) (u : Option ℕ) (p : ℕ) → IsUnended text → scan ts (mode.Quoted s q u) p text ≡ read ts (Some q)
unfolding scan
unended_fails [] ts s q u p h = refl
unended_fails (b ∷ bs) ts s q u p h =
    elim (inner_or b (class b) refl) [
      | inl e ↦ absurd (h [] bs tt (ap (λ (x : ℕ). x ∷ bs) (quote_is b e)))
      | inr (inl e) ↦ scan_quoted b bs ts s q u p is.Break e ∙ scan_broken bs ts q (p + 1)
      | inr (inr i) ↦ scan_quoted b bs ts s q u p (class b) refl ∙ ap (λ (m : Mode). scan ts m (p + 1) bs) (inner_step (class b) s q u b i.0 i.1)
          ∙ unended_fails bs ts s q (spell u b) (p + 1) (λ r more f parts. h (b ∷ r) more (i, f) (ap (λ (xs : List ℕ). b ∷ xs) parts))
    ]

-- an open quote behind parts of a word
word_fails : (xs : List Piece) (rest : List ℕ) (ts : List Token) (s : ℕ) (u : Option ℕ) (p : ℕ) → AllByRecursion IsPiece xs → IsUnended rest
    → scan ts (mode.Word s u) p (flat_map spelled xs ++ 34 ∷ rest) ≡ read ts (Some (p + length (flat_map spelled xs)))
word_fails xs rest ts s u p f h =
    over_pieces xs (34 ∷ rest) ts s u p f
    ∙ scan_word 34 rest ts s (spelling u (flat_map spelled xs)) (p + length (flat_map spelled xs)) is.Quote quote_class
    ∙ unended_fails rest ts s (p + length (flat_map spelled xs)) (spelling u (flat_map spelled xs)) (p + length (flat_map spelled xs) + 1) h

quote_fails : (f : Before) (rest : List ℕ) (ts : List Token) (p : ℕ) → (f ≡ Keyword → ⊥) → IsUnended rest → scan ts (mode.Gap f) p (34 ∷ rest) ≡ read ts (Some p)
quote_fails Other rest ts p n h = scan_gap 34 rest ts Other p is.Quote quote_class ∙ unended_fails rest ts p p None (p + 1) h
quote_fails Bracket rest ts p n h = scan_gap 34 rest ts Bracket p is.Quote quote_class ∙ unended_fails rest ts p p (Some 0) (p + 1) h
quote_fails Keyword rest ts p n h = absurd (n refl)

pieces_fail : (f : Before) (xs : List Piece) (rest : List ℕ) (ts : List Token) (p : ℕ) → (f ≡ Keyword → ⊥) → AllByRecursion IsPiece xs → IsUnended rest
    → scan ts (mode.Gap f) p (flat_map spelled xs ++ 34 ∷ rest) ≡ read ts (Some (p + length (flat_map spelled xs)))
pieces_fail f [] rest ts p n h u = let l : p ≡ p + length {A = ℕ} [] = omega arith in quote_fails f rest ts p n u ∙ ap (λ (k : ℕ). read ts (Some k)) l
pieces_fail f (x ∷ xs) rest ts p n h u =
    let c = flat_map-cons spelled x xs in
    let e : flat_map spelled (x ∷ xs) ++ 34 ∷ rest ≡ spelled x ++ (flat_map spelled xs ++ 34 ∷ rest) = ap (λ (y : List ℕ). y ++ 34 ∷ rest) c ∙ append_assoc (spelled x) (flat_map spelled xs) (34 ∷ rest) in
    let l : p + length (spelled x) + length (flat_map spelled xs) ≡ p + length (flat_map spelled (x ∷ xs)) = omega (arith, length-append (spelled x) (flat_map spelled xs), ap length c) in
    ap (λ (y : List ℕ). scan ts (mode.Gap f) p y) e ∙ first_piece x (flat_map spelled xs ++ 34 ∷ rest) ts f p n h.0
    ∙ word_fails xs rest ts p (spelling (begun f) (spelled x)) (p + length (spelled x)) h.1 u ∙ ap (λ (k : ℕ). read ts (Some k)) l

open_fails : (f : Before) (p at : ℕ) (text : List ℕ) (ts : List Token) → (f ≡ Keyword → ⊥) → HasOpenQuote p text at → scan ts (mode.Gap f) p text ≡ read ts (Some at)
open_fails f p at text ts n h =
    ap (λ (y : List ℕ). scan ts (mode.Gap f) p y) h.parts ∙ over_gap h.gap (flat_map spelled h.pieces ++ 34 ∷ h.rest) ts f p h.blank
    ∙ pieces_fail f h.pieces h.rest ts (p + length h.gap) n h.formed h.unended ∙ ap (λ (k : ℕ). read ts (Some k)) (sym h.place)

follows_read : (o : Option ℕ) (f : Before) (p : ℕ) (text : List ℕ) (ts : List Token) → Follows o f p text → scan ts (mode.Gap f) p text ≡ read ts o
unfolding scan
follows_read None f p text ts h = ap (λ (y : List ℕ). scan ts (mode.Gap f) p y) (sym (append-nil text)) ∙ over_gap text [] ts f p h
follows_read (Some at) Other p text ts h = open_fails Other p at text ts (λ k. absurd cc) h
follows_read (Some at) Bracket p text ts h = open_fails Bracket p at text ts (λ k. absurd cc) h
follows_read (Some at) Keyword p text ts h =
    ap (λ (y : List ℕ). scan ts (mode.Gap Keyword) p y) h.parts ∙ over_gap h.gap (h.byte ∷ h.rest) ts Keyword p h.blank
    ∙ scan_gap h.byte h.rest ts Keyword (p + length h.gap) is.Plain h.bare ∙ scan_broken h.rest ts (p + length h.gap) (p + length h.gap + 1)
    ∙ ap (λ (k : ℕ). read ts (Some k)) (sym h.place)

pub tokens_read : (text : List ℕ) (ts : List Token) (o : Option ℕ) → TokensThen (Follows o) Other 0 ts text → scan [] (mode.Gap Other) 0 text ≡ read ts o
tokens_read text ts o h =
    let r = tokens_run (Follows o) ts [] Other 0 text h in
    r.same ∙ follows_read o r.now r.place r.rest ts r.so
