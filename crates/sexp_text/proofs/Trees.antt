-- What is planted of tokens, by what they are.
use Rattle.std.proofs.Common.{◌≡◌, ℕ, zero, suc, ◌≤◌, min, List, [], ◌∷◌, ◌++◌, length, take, drop, Option, Some, None, Result, Ok, Err, refl, sym, ap, subst, ◌∙◌, arith, length-append}
use Rattle.std.proofs.Math.Seq.{drop-append_seam, take-append_seam}
use Rattle.std.proofs.lemmas.List.{append-nil}
use Rattle.sexp_text.specs.Forest.{Forest, End, Word, Branch}
use Rattle.sexp_text.specs.Shows.{grown}
use Rattle.sexp_text.specs.declared.fault.TextFault.{TextFault}
use Rattle.sexp_text.specs.declared.fault.TextFault.TheVariants as faults
use Rattle.sexp_text.specs.declared.token.Token.{Token}
use Rattle.sexp_text.specs.declared.token.TokenKind.TheVariants as kind
use Rattle.sexp_text.specs.declared.cursor.TreeEntry.{TreeEntry}
use Rattle.sexp_text.specs.declared.builder.Builder.{Builder}
use Rattle.sexp_text.specs.Tree.{text_of, HasForest, depth, HasOpened}
use Rattle.sexp_text.specs.Build.{◌>>=◌, put_left, put, levels, build, nothing_read, built_forest, no_quote, planted}
use Rattle.sexp_text.specs.Nodes.{Lays}
use Rattle.sexp_text.proofs.Forests.{joined-End}
use Rattle.sexp_text.proofs.OpenLists.{opened_levels}
use Rattle.sexp_text.proofs.Planted.{build_next, build-append, forest_built}

abbrev told_unclosed : ℕ → Result Builder TextFault
told_unclosed at = Err (faults.Unclosed at)

abbrev told_forest : Forest → Result Forest TextFault
told_forest f = Ok f

build_fails : (text : List ℕ) (xs ys : List Token) (b : Builder) (e : TextFault) → build text ys b ≡ Err e → build text (xs ++ ys) b ≡ Err e
build_fails text xs ys b e h = build-append text xs ys b ∙ ap (λ (r : Result Builder TextFault). r >>= λ c. build text xs c) h

none_grown : (n : ℕ) (pool : List ℕ) → grown n pool [] ≡ End
unfolding grown
none_grown zero pool = refl
none_grown (suc n) pool = refl

-- the forest of the entries of a forest is that forest
pub laid_forest : (f : Forest) (n : ℕ) (pool : List ℕ) (es : List TreeEntry) → Lays pool f es → length es ≤ n → grown n pool es ≡ f
unfolding grown
laid_forest End n pool es h b = ap (λ (x : List TreeEntry). grown n pool x) h ∙ none_grown n pool
laid_forest (Word at word rest) zero pool es h b = let e = ap length h.3 in absurd (omega (arith, e, b))
laid_forest (Word at word rest) (suc n) pool es h b =
    let l : length h.2 ≤ n = (let e = ap length h.3 in omega (arith, e, b)) in
    ap (λ (x : List TreeEntry). grown (suc n) pool x) h.3 ∙ ap (λ (w : List ℕ). Word at w (grown n pool h.2)) h.6 ∙ ap (λ (f : Forest). Word at word f) (laid_forest rest n pool h.2 h.7 l)
laid_forest (Branch at inside rest) zero pool es h b = let e = ap length h.2 in absurd (omega (arith, e, b))
laid_forest (Branch at inside rest) (suc n) pool es h b =
    let e = ap length h.2 in
    let a = length-append h.0 h.1 in
    let li : length h.0 ≤ n = omega (arith, e, a, b) in
    let lr : length h.1 ≤ n = omega (arith, e, a, b) in
    let m : min (length h.0) (length (h.0 ++ h.1)) ≡ length h.0 = omega (arith, a) in
    ap (λ (x : List TreeEntry). grown (suc n) pool x) h.2
    ∙ ap (λ (k : ℕ). Branch at (grown n pool (take k (h.0 ++ h.1))) (grown n pool (drop k (h.0 ++ h.1)))) m
    ∙ ap (λ (x : List TreeEntry). Branch at (grown n pool x) (grown n pool (drop (length h.0) (h.0 ++ h.1)))) (take-append_seam h.0 h.1)
    ∙ ap (λ (x : List TreeEntry). Branch at (grown n pool h.0) (grown n pool x)) (drop-append_seam h.0 h.1)
    ∙ ap (λ (f : Forest). Branch at f (grown n pool h.1)) (laid_forest inside n pool h.0 h.3 li)
    ∙ ap (λ (f : Forest). Branch at inside f) (laid_forest rest n pool h.1 h.4 lr)

-- what is built of a whole text's tokens
pub record Plants (text : List ℕ) (ts : List Token) (f : Forest) : Type 0 where
  pub after : Builder
  pub built : build text ts nothing_read ≡ Ok after
  pub laid : Lays after.pool f after.entries
  pub closed : after.marks ≡ []

pub plants : (text : List ℕ) (f : Forest) (ts : List Token) → HasForest text ts f → Plants text ts f
plants text f ts h =
    let g = forest_built text f ts nothing_read End [] h (refl, refl) in
    record { after = g.after; built = g.built; laid = subst (λ (x : Forest). Lays g.after.pool x g.after.entries) (joined-End f) g.stacked.1; closed = g.stacked.0 }

pub plants_forest : (text : List ℕ) (f : Forest) (ts : List Token) → (p : Plants text ts f) → built_forest p.after ≡ f
plants_forest text f ts p = laid_forest f (length p.after.entries) p.after.pool p.after.entries p.laid (omega arith)

-- an open list's bracket is told
pub open_built : (text : List ℕ) (ts : List Token) (at : ℕ) (opens : List ℕ) → HasOpened text ts (at ∷ opens) → build text ts nothing_read ≡ Err (faults.Unclosed at)
open_built text ts at opens h =
    let o = h.2 in
    let p = plants text h.1 o.within o.shape in
    let last : put kind.Left o.bracket.start (text_of text o.bracket) p.after ≡ Err (faults.Unclosed at) =
    ap (λ (m : List ℕ). put_left p.after o.bracket.start m) p.closed ∙ ap (λ (n : ℕ). told_unclosed n) o.place in
    let step = build_next text o.bracket o.within nothing_read p.after kind.Left (Err (faults.Unclosed at)) p.built o.left last in
    ap (λ (x : List Token). build text x nothing_read) o.parts ∙ build_fails text h.0 (o.bracket ∷ o.within) nothing_read (faults.Unclosed at) step

-- ---- the levels, the quote, the entries

ended_levels : (text : List ℕ) (opens : List ℕ) (ts : List Token) → HasOpened text ts opens → levels 0 ts ≡ Ok (length opens)
unfolding levels
ended_levels text opens ts h = ap (λ (x : List Token). levels 0 x) (sym (append-nil ts)) ∙ opened_levels text opens ts [] h

past_levels : (text : List ℕ) (ts : List Token) (o : Option ℕ) (level : ℕ) → levels 0 ts ≡ Ok level → planted text ts o ≡ (no_quote o >>= λ _. build text ts nothing_read >>= λ b. Ok (built_forest b))
past_levels text ts o level h = ap (λ (r : Result ℕ TextFault). r >>= λ _. no_quote o >>= λ _. build text ts nothing_read >>= λ b. Ok (built_forest b)) h

pub planted_tree : (text : List ℕ) (f : Forest) (ts : List Token) → HasForest text ts f → depth f ≤ 64 → planted text ts None ≡ Ok f
planted_tree text f ts h d =
    let p = plants text f ts h in
    past_levels text ts None 0 (ended_levels text [] ts (f, h, d))
    ∙ ap (λ (r : Result Builder TextFault). r >>= λ b. Ok (built_forest b)) p.built ∙ ap (λ (x : Forest). told_forest x) (plants_forest text f ts p)

pub planted_open : (text : List ℕ) (ts : List Token) (at : ℕ) (opens : List ℕ) → HasOpened text ts (at ∷ opens) → planted text ts None ≡ Err (faults.Unclosed at)
planted_open text ts at opens h =
    past_levels text ts None (length (at ∷ opens)) (ended_levels text (at ∷ opens) ts h)
    ∙ ap (λ (r : Result Builder TextFault). r >>= λ b. Ok (built_forest b)) (open_built text ts at opens h)

pub planted_quote : (text : List ℕ) (ts : List Token) (at : ℕ) (opens : List ℕ) → HasOpened text ts opens → planted text ts (Some at) ≡ Err (faults.Quote at)
planted_quote text ts at opens h = past_levels text ts (Some at) (length opens) (ended_levels text opens ts h)

pub planted_stop : (text : List ℕ) (ts : List Token) (o : Option ℕ) (e : TextFault) → levels 0 ts ≡ Err e → planted text ts o ≡ Err e
planted_stop text ts o e h = ap (λ (r : Result ℕ TextFault). r >>= λ _. no_quote o >>= λ _. build text ts nothing_read >>= λ b. Ok (built_forest b)) h
