-- Reading goes on by one byte of a known class.
use Rattle.std.proofs.Common.{◌≡◌, ℕ, ◌+◌, List, [], ◌∷◌, Option, Some, refl, ap}
use Rattle.sexp_text.specs.declared.token.Token.{Token}
use Rattle.sexp_text.specs.declared.modes.Before.{Before}
use Rattle.sexp_text.specs.declared.modes.Class.{Class}
use Rattle.sexp_text.specs.declared.modes.Mode.TheVariants as mode
use Rattle.sexp_text.specs.Scan.{gap_step, word_step, quoted_step, scan}
use Rattle.sexp_text.specs.Words.{class}

pub scan_gap : (b : ℕ) (bs : List ℕ) (ts : List Token) (f : Before) (p : ℕ) (c : Class) → class b ≡ c
    → scan ts (mode.Gap f) p (b ∷ bs) ≡ scan (gap_step ts f p b c).0 (gap_step ts f p b c).1 (p + 1) bs
unfolding scan
scan_gap b bs ts f p c e = ap (λ (k : Class). scan (gap_step ts f p b k).0 (gap_step ts f p b k).1 (p + 1) bs) e

pub scan_word : (b : ℕ) (bs : List ℕ) (ts : List Token) (s : ℕ) (u : Option ℕ) (p : ℕ) (c : Class) → class b ≡ c
    → scan ts (mode.Word s u) p (b ∷ bs) ≡ scan (word_step ts s u p b c).0 (word_step ts s u p b c).1 (p + 1) bs
unfolding scan
scan_word b bs ts s u p c e = ap (λ (k : Class). scan (word_step ts s u p b k).0 (word_step ts s u p b k).1 (p + 1) bs) e

pub scan_quoted : (b : ℕ) (bs : List ℕ) (ts : List Token) (s o : ℕ) (u : Option ℕ) (p : ℕ) (c : Class) → class b ≡ c
    → scan ts (mode.Quoted s o u) p (b ∷ bs) ≡ scan ts (quoted_step s o u b c) (p + 1) bs
unfolding scan
scan_quoted b bs ts s o u p c e = ap (λ (k : Class). scan ts (quoted_step s o u b k) (p + 1) bs) e

pub scan_broken : (text : List ℕ) (ts : List Token) (at p : ℕ) → scan ts (mode.Broken at) p text ≡ (ts, Some at)
unfolding scan
scan_broken [] ts at p = refl
scan_broken (b ∷ bs) ts at p = scan_broken bs ts at (p + 1)
