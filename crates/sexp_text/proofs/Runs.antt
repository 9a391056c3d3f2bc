-- Reading goes over the tokens of a text.
use Rattle.std.proofs.Common.{◌≡◌, ℕ, ◌+◌, List, [], ◌∷◌, ◌++◌, length, sym, ap, ◌∙◌, append_assoc, arith}
use Rattle.std.proofs.lemmas.List.{append-nil}
use Rattle.sexp_text.specs.declared.token.Token.{Token}
use Rattle.sexp_text.specs.declared.token.TokenKind.{TokenKind}
use Rattle.sexp_text.specs.declared.token.TokenKind.TheVariants.{Left, Right, Word}
use Rattle.sexp_text.specs.declared.modes.Before.{Before}
use Rattle.sexp_text.specs.declared.modes.Before.TheVariants.{Other, Bracket, Keyword}
use Rattle.sexp_text.specs.declared.modes.Class.TheVariants as is
use Rattle.sexp_text.specs.declared.modes.Mode.TheVariants as mode
use Rattle.sexp_text.specs.Scan.{token, scan}
use Rattle.sexp_text.specs.Text.{after, IsToken, TokensThen}
use Rattle.sexp_text.proofs.Steps.{scan_gap}
use Rattle.sexp_text.proofs.Classes.{left_class, right_class, quote_class}
use Rattle.sexp_text.proofs.Tokens.{place_is, over_gap, over_word}

-- one token
over_token : (f : Before) (k : TokenKind) (bytes rest : List ℕ) (ts : List Token) (p : ℕ) → IsToken f k bytes rest
    → scan ts (mode.Gap f) p (bytes ++ rest) ≡ scan (ts ++ token k p (p + length bytes) ∷ []) (mode.Gap (after f k bytes)) (p + length bytes) rest
over_token f Left bytes rest ts p h = rw h (scan_gap 40 rest ts f p is.Left left_class)
over_token f Right bytes rest ts p h = rw h (scan_gap 41 rest ts f p is.Right right_class)
over_token Keyword Word bytes rest ts p h = rw h (scan_gap 34 rest ts Keyword p is.Quote quote_class)
over_token Other Word bytes rest ts p h = over_word bytes rest ts Other p (λ e. absurd cc) h.0 h.1
over_token Bracket Word bytes rest ts p h = over_word bytes rest ts Bracket p (λ e. absurd cc) h.0 h.1

token_is : (t : Token) (s e : ℕ) → t.start ≡ s → t.end ≡ e → token t.kind s e ≡ t
token_is t s e p q = λ i. record { kind = t.kind; start = sym p i; end = sym q i }

-- reading goes over the tokens to what follows them
pub record Reaches (IsSo : Before → ℕ → List ℕ → Type 0) (first : List Token) (f : Before) (p : ℕ) (ts : List Token) (text : List ℕ) : Type 0 where
  pub now : Before
  pub place : ℕ
  pub rest : List ℕ
  pub so : IsSo now place rest
  pub same : scan first (mode.Gap f) p text ≡ scan (first ++ ts) (mode.Gap now) place rest

pub tokens_run : (IsSo : Before → ℕ → List ℕ → Type 0) (ts first : List Token) (f : Before) (p : ℕ) (text : List ℕ) → TokensThen IsSo f p ts text → Reaches IsSo first f p ts text
tokens_run IsSo [] first f p text h =
    record { now = f; place = p; rest = text; so = h; same = ap (λ (xs : List Token). scan xs (mode.Gap f) p text) (sym (append-nil first)) }
tokens_run IsSo (t ∷ ts) first f p text h =
    let n = h.2 in
    let begin = over_gap n.gap (h.0 ++ h.1) first f p n.blank in
    let second = over_token f t.kind h.0 h.1 first (p + length n.gap) n.is in
    let ends : t.end ≡ p + length n.gap + length h.0 = omega (arith, n.start, n.end) in
    let same = token_is t (p + length n.gap) (p + length n.gap + length h.0) n.start ends in
    let later = tokens_run IsSo ts (first ++ t ∷ []) (after f t.kind h.0) t.end h.1 h.3 in
    record {
      now = later.now;
      place = later.place;
      rest = later.rest;
      so = later.so;
      same = ap (λ (y : List ℕ). scan first (mode.Gap f) p y) n.parts ∙ begin ∙ second
          ∙ ap (λ (x : Token). scan (first ++ x ∷ []) (mode.Gap (after f t.kind h.0)) (p + length n.gap + length h.0) h.1) same
          ∙ place_is (first ++ t ∷ []) (mode.Gap (after f t.kind h.0)) _ _ h.1 (sym ends)
          ∙ later.same ∙ ap (λ (xs : List Token). scan xs (mode.Gap later.now) later.place later.rest) (append_assoc first (t ∷ []) ts);
    }
