-- What is built of a text is counted by 32 bits.
use Rattle.std.proofs.Common.{◌≡◌, ℕ, ◌+◌, ◌*◌, ◌-◌, ◌<◌, ◌≤◌, ◌^◌, ◌==◌, Bool, true, false, not, if◌then◌else◌, List, [], ◌∷◌, ◌++◌, length, take, drop, Option, Result, Ok, ap, subst, arith, length-append}
use Rattle.std.specs.List.{flat_map}
use Rattle.std.specs.Str.{bytes_eq}
use Rattle.std.proofs.lemmas.List.{length-take}
use Rattle.std.proofs.lemmas.List.Sums.{length-filter, count_by-le-length}
use Rattle.sexp_text.specs.declared.fault.TextFault.{TextFault}
use Rattle.sexp_text.specs.declared.token.Token.{Token}
use Rattle.sexp_text.specs.declared.token.TokenKind.{TokenKind}
use Rattle.sexp_text.specs.declared.token.TokenKind.TheVariants as kind
use Rattle.sexp_text.specs.declared.modes.Before.{Before}
use Rattle.sexp_text.specs.declared.modes.Before.TheVariants.{Other, Bracket, Keyword}
use Rattle.sexp_text.specs.declared.modes.Mode.TheVariants as mode
use Rattle.sexp_text.specs.declared.builder.Builder.{Builder}
use Rattle.sexp_text.specs.Words.{Piece, Bare, Quoted, spelled, IsWord, unquoted}
use Rattle.sexp_text.specs.Text.{after, IsToken, TokensThen}
use Rattle.sexp_text.specs.Tree.{word_text, text_of}
use Rattle.sexp_text.specs.Scan.{scan}
use Rattle.sexp_text.specs.Build.{put_left, put_word, put, bulk, amount}
use Rattle.sexp_text.proofs.Quotes.{tokens_found}

-- ---- each token has a byte, and tokens lie in the text one behind another

piece_long : (x : Piece) → 1 ≤ length (spelled x)
piece_long (Bare b) = omega arith
piece_long (Quoted q) = omega arith

word_long : (bytes : List ℕ) → IsWord bytes → 1 ≤ length bytes
word_long bytes w = omega (arith, piece_long w.first, ap length w.text, length-append (spelled w.first) (flat_map spelled w.others))

token_long : (before : Before) (k : TokenKind) (bytes rest : List ℕ) → IsToken before k bytes rest → 1 ≤ length bytes
token_long before kind.Left bytes rest h = omega (arith, ap length h)
token_long before kind.Right bytes rest h = omega (arith, ap length h)
token_long Keyword kind.Word bytes rest h = omega (arith, ap length h)
token_long Other kind.Word bytes rest h = word_long bytes h.0
token_long Bracket kind.Word bytes rest h = word_long bytes h.0

bulk_within : (IsSo : Before → ℕ → List ℕ → Type 0) (ts : List Token) (before : Before) (p : ℕ) (text : List ℕ) → TokensThen IsSo before p ts text → bulk ts ≤ 2 * length text
bulk_within IsSo [] before p text h = omega arith
bulk_within IsSo (t ∷ ts) before p text h =
    let later = bulk_within IsSo ts (after before t.kind h.0) t.end h.1 h.3 in
    let long = token_long before t.kind h.0 h.1 h.2.is in
    let ends = h.2.end in
    let whole = ap length h.2.parts in
    let gap = length-append h.2.gap (h.0 ++ h.1) in
    let behind = length-append h.0 h.1 in
    omega (arith, later, long, ends, whole, gap, behind)

pub text_small : (text : List ℕ) (ts : List Token) (o : Option ℕ) → scan [] (mode.Gap Other) 0 text ≡ (ts, o) → length text ≤ 67108864 → bulk ts < 2 ^ 32
text_small text ts o e h = let b = bulk_within _ ts Other 0 text (tokens_found text ts o e) in omega (arith, b, h)

-- ---- what a token adds

short_if : (b : Bool) (bytes : List ℕ) → length (if b then bytes else unquoted bytes) ≤ length bytes
short_if true bytes = omega arith
short_if false bytes = omega (arith, length-filter (λ c. not (c == 34)) bytes, count_by-le-length (λ c. not (c == 34)) bytes)

pub word_short : (bytes : List ℕ) → length (word_text bytes) ≤ length bytes
word_short bytes = short_if (bytes_eq bytes (34 ∷ [])) bytes

pub text_short : (text : List ℕ) (t : Token) → length (text_of text t) ≤ t.end - t.start
text_short text t = omega (arith, word_short (take (t.end - t.start) (drop t.start text)), length-take (t.end - t.start) (drop t.start text))

abbrev given : Builder → Result Builder TextFault
given b = Ok b

same_given : (b c : Builder) → given b ≡ given c → b ≡ c
same_given b c e = cc

left_small : (at : ℕ) (marks : List ℕ) (b c : Builder) → put_left b at marks ≡ given c → amount c ≤ amount b + 1
left_small at [] b c e = absurd cc
left_small at (m ∷ marks) b c e = subst (λ (x : Builder). amount x ≤ amount b + 1) (same_given _ c e) (omega arith)

pub put_small : (k : TokenKind) (at : ℕ) (word : List ℕ) (b c : Builder) → put k at word b ≡ given c → amount c ≤ amount b + length word + 1
put_small kind.Word at word b c e = subst (λ (x : Builder). amount x ≤ amount b + length word + 1) (same_given (put_word b at word) c e) (omega (arith, length-append b.pool word))
put_small kind.Right at word b c e = subst (λ (x : Builder). amount x ≤ amount b + length word + 1) (same_given _ c e) (omega arith)
put_small kind.Left at word b c e = let s = left_small at b.marks b c e in omega (arith, s)

-- ---- the tokens in front of the last one

pub bulk_snoc : (ts : List Token) (t : Token) → bulk (ts ++ t ∷ []) ≡ bulk ts + (t.end - t.start) + 1
bulk_snoc [] t = omega arith
bulk_snoc (u ∷ us) t = omega (arith, bulk_snoc us t)
