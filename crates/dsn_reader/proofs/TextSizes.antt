-- A text has no more lists and words than bytes.
use Rattle.std.proofs.Common.{ℕ, ◌≤◌, List, [], ◌∷◌, ◌++◌, length, ap, arith}
use Rattle.std.specs.List.{flat_map}
use Rattle.std.proofs.lemmas.List.{length-append}
use Rattle.sexp_text.specs.Forest.{Forest, End, Word, Branch}
use Rattle.sexp_text.specs.Nodes.{size}
use Rattle.sexp_text.specs.declared.token.Token.{Token}
use Rattle.sexp_text.specs.declared.token.TokenKind.{TokenKind}
use Rattle.sexp_text.specs.declared.token.TokenKind.TheVariants as kind
use Rattle.sexp_text.specs.declared.modes.Before.{Before}
use Rattle.sexp_text.specs.declared.modes.Before.TheVariants as before
use Rattle.sexp_text.specs.Words.{Piece, Bare, Quoted, spelled, IsWord}
use Rattle.sexp_text.specs.Text.{after, IsToken, TokensThen, IsEnd}
use Rattle.sexp_text.specs.Tree.{HasForest, IsTree}

-- as many tokens as lists and words, or more
forest_size : (text : List ℕ) (ts : List Token) (f : Forest) → HasForest text ts f → size f ≤ length ts
forest_size text ts End h = omega arith
forest_size text ts (Word at word rest) h =
    let more = forest_size text h.1 rest h.6 in
    let same = ap (λ (xs : List Token). length xs) h.2 in
    omega (arith, more, same)
forest_size text ts (Branch at inside rest) h =
    let first = forest_size text h.2 inside h.8 in
    let more = forest_size text h.3 rest h.9 in
    let same = ap (λ (xs : List Token). length xs) h.4 in
    let parts = length-append h.2 (h.1 ∷ h.3) in
    omega (arith, first, more, same, parts)

piece_size : (p : Piece) → 1 ≤ length (spelled p)
piece_size (Bare b) = omega arith
piece_size (Quoted q) = omega arith

word_size : (bytes : List ℕ) → IsWord bytes → 1 ≤ length bytes
word_size bytes w =
    let same = ap (λ (xs : List ℕ). length xs) w.text in
    let parts = length-append (spelled w.first) (flat_map spelled w.others) in
    let one = piece_size w.first in
    omega (arith, same, parts, one)

token_size : (b : Before) (k : TokenKind) (bytes rest : List ℕ) → IsToken b k bytes rest → 1 ≤ length bytes
token_size b kind.Left bytes rest h = let same = ap (λ (xs : List ℕ). length xs) h in omega (arith, same)
token_size b kind.Right bytes rest h = let same = ap (λ (xs : List ℕ). length xs) h in omega (arith, same)
token_size before.Keyword kind.Word bytes rest h = let same = ap (λ (xs : List ℕ). length xs) h in omega (arith, same)
token_size before.Other kind.Word bytes rest h = word_size bytes h.0
token_size before.Bracket kind.Word bytes rest h = word_size bytes h.0

tokens_size : (b : Before) (p : ℕ) (ts : List Token) (text : List ℕ) → TokensThen IsEnd b p ts text → length ts ≤ length text
tokens_size b p [] text h = omega arith
tokens_size b p (t ∷ ts) text h =
    let more = tokens_size (after b t.kind h.0) t.end ts h.1 h.3 in
    let one = token_size b t.kind h.0 h.1 h.2.is in
    let same = ap (λ (xs : List ℕ). length xs) h.2.parts in
    let outer = length-append h.2.gap (h.0 ++ h.1) in
    let inner = length-append h.0 h.1 in
    omega (arith, more, one, same, outer, inner)

pub tree_size : (text : List ℕ) (f : Forest) → IsTree text f → size f ≤ length text
tree_size text f h =
    let all = tokens_size before.Other 0 h.tokens text h.spelled in
    let own = forest_size text h.tokens f h.shape in
    omega (arith, all, own)
