-- Which byte a class is of.
use Rattle.std.proofs.Common.{◌≡◌, ℕ, Bool, true, false, cond, eqb}
use Rattle.std.proofs.Common.{refl, sym, ap, ◌∙◌}
use Rattle.std.proofs.lemmas.Bool.{eqb-true, false_from_ne_true}
use Rattle.sexp_text.specs.declared.modes.Class.TheVariants as is
use Rattle.sexp_text.specs.Words.{class}

left_test : (a b c d e f g : Bool) → cond a is.Blank (cond b is.Blank (cond c is.Blank (cond d is.Break (cond e is.Left (cond f is.Right (cond g is.Quote is.Plain)))))) ≡ is.Left → e ≡ true
left_test true b c d e f g h = absurd cc
left_test false true c d e f g h = absurd cc
left_test false false true d e f g h = absurd cc
left_test false false false true e f g h = absurd cc
left_test false false false false true f g h = refl
left_test false false false false false true g h = absurd cc
left_test false false false false false false true h = absurd cc
left_test false false false false false false false h = absurd cc

right_test : (a b c d e f g : Bool) → cond a is.Blank (cond b is.Blank (cond c is.Blank (cond d is.Break (cond e is.Left (cond f is.Right (cond g is.Quote is.Plain)))))) ≡ is.Right → f ≡ true
right_test true b c d e f g h = absurd cc
right_test false true c d e f g h = absurd cc
right_test false false true d e f g h = absurd cc
right_test false false false true e f g h = absurd cc
right_test false false false false true f g h = absurd cc
right_test false false false false false true g h = refl
right_test false false false false false false true h = absurd cc
right_test false false false false false false false h = absurd cc

quote_test : (a b c d e f g : Bool) → cond a is.Blank (cond b is.Blank (cond c is.Blank (cond d is.Break (cond e is.Left (cond f is.Right (cond g is.Quote is.Plain)))))) ≡ is.Quote → g ≡ true
quote_test true b c d e f g h = absurd cc
quote_test false true c d e f g h = absurd cc
quote_test false false true d e f g h = absurd cc
quote_test false false false true e f g h = absurd cc
quote_test false false false false true f g h = absurd cc
quote_test false false false false false true g h = absurd cc
quote_test false false false false false false true h = refl
quote_test false false false false false false false h = absurd cc

pub left_is : (b : ℕ) → class b ≡ is.Left → b ≡ 40
unfolding class
left_is b e = eqb-true b 40 (left_test (eqb b 32) (eqb b 9) (eqb b 13) (eqb b 10) (eqb b 40) (eqb b 41) (eqb b 34) e)

pub right_is : (b : ℕ) → class b ≡ is.Right → b ≡ 41
unfolding class
right_is b e = eqb-true b 41 (right_test (eqb b 32) (eqb b 9) (eqb b 13) (eqb b 10) (eqb b 40) (eqb b 41) (eqb b 34) e)

pub quote_is : (b : ℕ) → class b ≡ is.Quote → b ≡ 34
unfolding class
quote_is b e = eqb-true b 34 (quote_test (eqb b 32) (eqb b 9) (eqb b 13) (eqb b 10) (eqb b 40) (eqb b 41) (eqb b 34) e)

pub left_class : class 40 ≡ is.Left
unfolding class
left_class = refl

pub right_class : class 41 ≡ is.Right
unfolding class
right_class = refl

pub quote_class : class 34 ≡ is.Quote
unfolding class
quote_class = refl

pub not_quote : (b : ℕ) → (class b ≡ is.Quote → ⊥) → eqb b 34 ≡ false
not_quote b h = false_from_ne_true (eqb b 34) (λ e. h (ap class (eqb-true b 34 e) ∙ quote_class))

pub plain_not_quote : (b : ℕ) → class b ≡ is.Plain → eqb b 34 ≡ false
plain_not_quote b h = not_quote b (λ k. let x = sym h ∙ k in absurd cc)
