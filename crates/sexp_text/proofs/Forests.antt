-- Tokens of one forest and then another are those of both.
use Rattle.std.proofs.Common.{◌≡◌, ℕ, max, List, ◌∷◌, ◌++◌, refl, sym, ap, ◌∙◌, append_assoc, arith}
use Rattle.sexp_text.specs.Forest.{Forest, End, Word, Branch}
use Rattle.sexp_text.specs.declared.token.Token.{Token}
use Rattle.sexp_text.specs.Tree.{HasForest, depth}

-- one forest after another
abbrev pub joined : Forest → Forest → Forest
joined End g = g
joined (Word at text rest) g = Word at text (joined rest g)
joined (Branch at inside rest) g = Branch at inside (joined rest g)

pub joined-End : (f : Forest) → joined f End ≡ f
joined-End End = refl
joined-End (Word at text rest) = ap (λ (x : Forest). Word at text x) (joined-End rest)
joined-End (Branch at inside rest) = ap (λ (x : Forest). Branch at inside x) (joined-End rest)

pub depth-joined : (f g : Forest) → depth (joined f g) ≡ max (depth f) (depth g)
depth-joined End g = omega arith
depth-joined (Word at text rest) g = depth-joined rest g
depth-joined (Branch at inside rest) g = omega (arith, depth-joined rest g)

pub forest_join : (text : List ℕ) (f : Forest) (ts : List Token) (g : Forest) (us : List Token) → HasForest text ts f → HasForest text us g → HasForest text (ts ++ us) (joined f g)
forest_join text End ts g us h k = let e : us ≡ ts ++ us = ap (λ (x : List Token). x ++ us) (sym h) in rw h k
forest_join text (Word at word rest) ts g us h k =
    (h.0, h.1 ++ us, ap (λ (x : List Token). x ++ us) h.2, h.3, h.4, h.5, forest_join text rest h.1 g us h.6 k)
forest_join text (Branch at inside rest) ts g us h k = (
  h.0,
  h.1,
  h.2,
  h.3 ++ us,
  ap (λ (x : List Token). x ++ us) h.4 ∙ ap (λ (x : List Token). h.0 ∷ x) (append_assoc h.2 (h.1 ∷ h.3) us),
  h.5,
  h.6,
  h.7,
  h.8,
  forest_join text rest h.3 g us h.9 k,
)
