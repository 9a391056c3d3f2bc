-- Tokens of a forest build its entries onto those that stand behind it.
use Rattle.std.proofs.Common.{◌≡◌, ℕ, ◌+◌, ◌-◌, Bool, eqb, List, [], ◌∷◌, ◌++◌, length, take, drop, Result, Ok, Err, refl, sym, ap, subst, ◌∙◌, append_assoc, arith, length-append}
use Rattle.std.proofs.Math.Seq.{drop-append_seam, take-length}
use Rattle.sexp_text.specs.Forest.{Forest, End, Word, Branch}
use Rattle.sexp_text.specs.declared.fault.TextFault.{TextFault}
use Rattle.sexp_text.specs.declared.token.Token.{Token}
use Rattle.sexp_text.specs.declared.token.TokenKind.{TokenKind}
use Rattle.sexp_text.specs.declared.token.TokenKind.TheVariants as kind
use Rattle.sexp_text.specs.declared.cursor.TreeEntry.{TreeEntry}
use Rattle.sexp_text.specs.declared.cursor.TreeEntry.TheVariants as entries
use Rattle.sexp_text.specs.declared.builder.Builder.{Builder}
use Rattle.sexp_text.specs.Tree.{text_of, HasForest}
use Rattle.sexp_text.specs.Build.{◌>>=◌, base, put_left, put_word, put, build}
use Rattle.sexp_text.specs.Nodes.{is_end, Lays}
use Rattle.sexp_text.proofs.Forests.{joined, joined-End}
use Rattle.sexp_text.proofs.Laid.{lays_more, Stacked, stacked_more, last_test}

word_slice : (pool word : List ℕ) → take (length pool + length word - length pool) (drop (length pool) (pool ++ word)) ≡ word
word_slice pool word =
    let e : length pool + length word - length pool ≡ length word = omega arith in
    ap (λ (n : ℕ). take n (drop (length pool) (pool ++ word))) e ∙ ap (λ (x : List ℕ). take (length word) x) (drop-append_seam pool word) ∙ take-length word

stacked_word : (pool word : List ℕ) (at : ℕ) (f : Forest) (fs : List Forest) (marks : List ℕ) (es : List TreeEntry) → Stacked pool (f ∷ fs) marks es
    → Stacked (pool ++ word) (Word at word f ∷ fs) marks (entries.Word (is_end f) at (length pool) (length pool + length word) ∷ es)
stacked_word pool word at f [] marks es h =
    (h.0, (length pool, length pool + length word, es, refl, omega arith, omega (arith, length-append pool word), word_slice pool word, lays_more pool word f es h.1))
stacked_word pool word at f (g ∷ fs) marks es h = (
  entries.Word (is_end f) at (length pool) (length pool + length word) ∷ h.0,
  h.1,
  h.2,
  ap (λ (x : List TreeEntry). entries.Word (is_end f) at (length pool) (length pool + length word) ∷ x) h.3,
  h.4,
  (length pool, length pool + length word, h.0, refl, omega arith, omega (arith, length-append pool word), word_slice pool word, lays_more pool word f h.0 h.5),
  stacked_more pool word (g ∷ fs) h.2 h.1 h.6,
)

stacked_left : (pool : List ℕ) (at : ℕ) (f g : Forest) (fs : List Forest) (segment below : List TreeEntry) (ms : List ℕ) → Lays pool f segment → Stacked pool (g ∷ fs) ms below
    → Stacked pool (Branch at f g ∷ fs) ms (entries.List (is_end g) at (length segment) ∷ (segment ++ below))
stacked_left pool at f g [] segment below ms h k = (k.0, (segment, below, refl, h, k.1))
stacked_left pool at f g (x ∷ xs) segment below ms h k = (
  entries.List (is_end g) at (length segment) ∷ (segment ++ k.0),
  k.1,
  k.2,
  ap (λ (y : List TreeEntry). entries.List (is_end g) at (length segment) ∷ y) (ap (λ (y : List TreeEntry). segment ++ y) k.3 ∙ sym (append_assoc segment k.0 k.1)),
  k.4,
  (segment, k.0, refl, h, k.5),
  k.6,
)

abbrev pub IsStacked : Builder → List Forest → Type 0
IsStacked b fs = Stacked b.pool fs b.marks b.entries

-- what is built on the way to these forests
pub record Grows (r : Result Builder TextFault) (fs : List Forest) : Type 0 where
  pub after : Builder
  pub built : r ≡ Ok after
  pub stacked : IsStacked after fs

grows_word : (b : Builder) (at : ℕ) (word : List ℕ) (f : Forest) (fs : List Forest) → IsStacked b (f ∷ fs) → Grows (put kind.Word at word b) (Word at word f ∷ fs)
grows_word b at word f fs h =
    record {
      after = put_word b at word;
      built = refl;
      stacked = subst (λ (l : Bool). Stacked (b.pool ++ word) (Word at word f ∷ fs) b.marks (entries.Word l at (length b.pool) (length b.pool + length word) ∷ b.entries))
          (sym (last_test b.pool f fs b.marks b.entries h)) (stacked_word b.pool word at f fs b.marks b.entries h);
    }

grows_right : (b : Builder) (at : ℕ) (word : List ℕ) (f : Forest) (fs : List Forest) → IsStacked b (f ∷ fs) → Grows (put kind.Right at word b) (End ∷ f ∷ fs)
grows_right b at word f fs h =
    record { after = record b { marks = length b.entries ∷ b.marks }; built = refl; stacked = ([], b.entries, b.marks, refl, refl, refl, h) }

grows_left : (b : Builder) (at : ℕ) (word : List ℕ) (f g : Forest) (fs : List Forest) → IsStacked b (f ∷ g ∷ fs) → Grows (put kind.Left at word b) (Branch at f g ∷ fs)
grows_left b at word f g fs h =
    let segment = h.0 in
    let below = h.1 in
    let ms = h.2 in
    let count : length b.entries - length below ≡ length segment = omega (arith, ap length h.3, length-append segment below) in
    let next : Builder = record b { entries = entries.List (eqb (length below) (base ms)) at (length b.entries - length below) ∷ b.entries; marks = ms } in
    let laid = stacked_left b.pool at f g fs segment below ms h.5 h.6 in
    record {
      after = next;
      built = ap (λ (m : List ℕ). put_left b at m) h.4;
      stacked = subst (λ (l : Bool). Stacked b.pool (Branch at f g ∷ fs) ms (entries.List l at (length b.entries - length below) ∷ b.entries)) (sym (last_test b.pool g fs ms below h.6))
          (subst (λ (n : ℕ). Stacked b.pool (Branch at f g ∷ fs) ms (entries.List (is_end g) at n ∷ b.entries)) (sym count)
          (subst (λ (x : List TreeEntry). Stacked b.pool (Branch at f g ∷ fs) ms (entries.List (is_end g) at (length segment) ∷ x)) (sym h.3) laid));
    }

keeps : (r : Result Builder TextFault) → r ≡ (r >>= λ c. Ok c)
keeps (Ok b) = refl
keeps (Err e) = refl

shifts : (r : Result Builder TextFault) (f g : Builder → Result Builder TextFault) → ((r >>= f) >>= g) ≡ (r >>= λ c. f c >>= g)
shifts (Ok b) f g = refl
shifts (Err e) f g = refl

pub build-append : (text : List ℕ) (xs ys : List Token) (b : Builder) → build text (xs ++ ys) b ≡ (build text ys b >>= λ c. build text xs c)
unfolding build
build-append text [] ys b = keeps (build text ys b)
build-append text (x ∷ xs) ys b = ap (λ (r : Result Builder TextFault). r >>= put x.kind x.start (text_of text x)) (build-append text xs ys b) ∙ shifts (build text ys b) (λ c. build text xs c) (put x.kind x.start (text_of text x))

pub build_next : (text : List ℕ) (t : Token) (ts : List Token) (b c : Builder) (k : TokenKind) (r : Result Builder TextFault) → build text ts b ≡ Ok c → t.kind ≡ k → put k t.start (text_of text t) c ≡ r → build text (t ∷ ts) b ≡ r
unfolding build
build_next text t ts b c k r h e p =
    ap (λ (x : Result Builder TextFault). x >>= put t.kind t.start (text_of text t)) h ∙ ap (λ (x : TokenKind). put x t.start (text_of text t) c) e ∙ p

pub build_after : (text : List ℕ) (xs ys : List Token) (b c : Builder) (r : Result Builder TextFault) → build text ys b ≡ Ok c → build text xs c ≡ r → build text (xs ++ ys) b ≡ r
build_after text xs ys b c r h k = build-append text xs ys b ∙ ap (λ (x : Result Builder TextFault). x >>= λ d. build text xs d) h ∙ k

pub build_snoc : (text : List ℕ) (xs : List Token) (t : Token) (b : Builder) → build text (xs ++ t ∷ []) b ≡ (put t.kind t.start (text_of text t) b >>= λ c. build text xs c)
unfolding build
build_snoc text xs t b = build-append text xs (t ∷ []) b

none_built : (text : List ℕ) (ts : List Token) (b : Builder) → ts ≡ [] → build text ts b ≡ Ok b
unfolding build
none_built text ts b e = ap (λ (x : List Token). build text x b) e

pub forest_built : (text : List ℕ) (f : Forest) (ts : List Token) (b : Builder) (g : Forest) (gs : List Forest) → HasForest text ts f → IsStacked b (g ∷ gs) → Grows (build text ts b) (joined f g ∷ gs)
forest_built text End ts b g gs h s = record { after = b; built = none_built text ts b h; stacked = s }
forest_built text (Word at word rest) ts b g gs h s =
    let t = h.0 in
    let later = forest_built text rest h.1 b g gs h.6 s in
    let next = grows_word later.after t.start (text_of text t) (joined rest g) gs later.stacked in
    let r = ap (λ (x : List Token). build text x b) h.2 ∙ build_next text t h.1 b later.after kind.Word (put kind.Word t.start (text_of text t) later.after) later.built h.3 refl in
    subst (λ (n : ℕ). Grows (build text ts b) (Word n word (joined rest g) ∷ gs)) h.4
    (subst (λ (w : List ℕ). Grows (build text ts b) (Word t.start w (joined rest g) ∷ gs)) h.5
    (record { after = next.after; built = r ∙ next.built; stacked = next.stacked }))
forest_built text (Branch at inside rest) ts b g gs h s =
    let l = h.0 in
    let r = h.1 in
    let later = forest_built text rest h.3 b g gs h.9 s in
    let close = grows_right later.after r.start (text_of text r) (joined rest g) gs later.stacked in
    let closed = build_next text r h.3 b later.after kind.Right (put kind.Right r.start (text_of text r) later.after) later.built h.7 refl ∙ close.built in
    let within = forest_built text inside h.2 close.after End (joined rest g ∷ gs) h.8 close.stacked in
    let full = build_after text h.2 (r ∷ h.3) b close.after (Ok within.after) closed within.built in
    let open_ = grows_left within.after l.start (text_of text l) (joined inside End) (joined rest g) gs within.stacked in
    let all = ap (λ (x : List Token). build text x b) h.4 ∙ build_next text l (h.2 ++ r ∷ h.3) b within.after kind.Left (put kind.Left l.start (text_of text l) within.after) full h.5 refl in
    subst (λ (n : ℕ). Grows (build text ts b) (Branch n inside (joined rest g) ∷ gs)) h.6
    (subst (λ (f : Forest). Grows (build text ts b) (Branch l.start f (joined rest g) ∷ gs)) (joined-End inside)
    (record { after = open_.after; built = all ∙ open_.built; stacked = open_.stacked }))
