-- The levels that are counted are the lists that are open.
use Rattle.std.proofs.Common.{◌≡◌, ℕ, ◌+◌, ◌-◌, ◌<◌, ◌≤◌, true, false, eqb, ltb, List, [], ◌∷◌, ◌++◌, length, Result, Ok, Err, refl, sym, ap, subst, ◌∙◌, append_assoc, arith}
use Rattle.sexp_text.specs.Forest.{Forest, End, Word, Branch}
use Rattle.sexp_text.specs.declared.fault.TextFault.{TextFault}
use Rattle.sexp_text.specs.declared.fault.TextFault.TheVariants as faults
use Rattle.sexp_text.specs.declared.token.Token.{Token}
use Rattle.sexp_text.specs.declared.token.TokenKind.{TokenKind}
use Rattle.sexp_text.specs.declared.token.TokenKind.TheVariants as kind
use Rattle.sexp_text.specs.Tree.{text_of, HasForest, depth, HasOpened}
use Rattle.sexp_text.specs.Build.{◌>>=◌, level_step, levels}
use Rattle.sexp_text.proofs.Forests.{joined, forest_join, depth-joined}

-- ---- open lists are counted

less_test : (k : ℕ) → k < 64 → ltb k 64 ≡ true
less_test k h = grind arith

more_test : (k : ℕ) → 64 ≤ k → ltb k 64 ≡ false
more_test k h = grind arith

not_zero : (k : ℕ) → eqb (k + 1) 0 ≡ false
not_zero k = grind arith

pub left_level : (k at : ℕ) → k < 64 → level_step k kind.Left at ≡ Ok (k + 1)
left_level k at h = rw (less_test k h) refl

pub deep_level : (k at : ℕ) → 64 ≤ k → level_step k kind.Left at ≡ Err (faults.Deep at)
deep_level k at h = rw (more_test k h) refl

pub right_level : (k at : ℕ) → level_step (k + 1) kind.Right at ≡ Ok k
right_level k at = let e : k + 1 - 1 ≡ k = omega arith in rw (not_zero k, e) refl

pub next_level : (level : ℕ) (t : Token) (ts : List Token) (k : TokenKind) (r : Result ℕ TextFault) → t.kind ≡ k → level_step level k t.start ≡ r → levels level (t ∷ ts) ≡ (r >>= λ n. levels n ts)
unfolding levels
next_level level t ts k r e h = ap (λ (x : TokenKind). level_step level x t.start >>= λ n. levels n ts) e ∙ ap (λ (x : Result ℕ TextFault). x >>= λ n. levels n ts) h

pub forest_levels : (text : List ℕ) (f : Forest) (ts more : List Token) (level : ℕ) → HasForest text ts f → level + depth f ≤ 64 → levels level (ts ++ more) ≡ levels level more
forest_levels text End ts more level h d = ap (λ (x : List Token). levels level (x ++ more)) h
forest_levels text (Word at word rest) ts more level h d =
    ap (λ (x : List Token). levels level (x ++ more)) h.2 ∙ next_level level h.0 (h.1 ++ more) kind.Word (Ok level) h.3 refl ∙ forest_levels text rest h.1 more level h.6 d
forest_levels text (Branch at inside rest) ts more level h d =
    let l = h.0 in
    let r = h.1 in
    let below : level < 64 = omega arith in
    let e : ts ++ more ≡ l ∷ (h.2 ++ r ∷ (h.3 ++ more)) = ap (λ (x : List Token). x ++ more) h.4 ∙ ap (λ (x : List Token). l ∷ x) (append_assoc h.2 (r ∷ h.3) more) in
    let d1 : level + 1 + depth inside ≤ 64 = omega arith in
    let d2 : level + depth rest ≤ 64 = omega arith in
    ap (λ (x : List Token). levels level x) e
    ∙ next_level level l (h.2 ++ r ∷ (h.3 ++ more)) kind.Left (Ok (level + 1)) h.5 (left_level level l.start below)
    ∙ forest_levels text inside h.2 (r ∷ (h.3 ++ more)) (level + 1) h.8 d1
    ∙ next_level (level + 1) r (h.3 ++ more) kind.Right (Ok level) h.7 (right_level level r.start)
    ∙ forest_levels text rest h.3 more level h.9 d2

pub opened_levels : (text : List ℕ) (opens : List ℕ) (ts more : List Token) → HasOpened text ts opens → levels 0 (ts ++ more) ≡ levels (length opens) more
opened_levels text [] ts more h = forest_levels text h.0 ts more 0 h.1 (omega (arith, h.2))
opened_levels text (at ∷ opens) ts more h =
    let o = h.2 in
    let k = h.3 in
    let below : length opens < 64 = omega arith in
    let e : ts ++ more ≡ h.0 ++ (o.bracket ∷ (o.within ++ more)) = ap (λ (x : List Token). x ++ more) o.parts ∙ append_assoc h.0 (o.bracket ∷ o.within) more in
    let d : length opens + 1 + depth h.1 ≤ 64 = h.3 in
    let l : length opens + 1 ≡ length (at ∷ opens) = omega arith in
    ap (λ (x : List Token). levels 0 x) e
    ∙ opened_levels text opens h.0 (o.bracket ∷ (o.within ++ more)) h.4
    ∙ next_level (length opens) o.bracket (o.within ++ more) kind.Left (Ok (length opens + 1)) o.left (left_level (length opens) o.bracket.start below)
    ∙ forest_levels text h.1 o.within more (length opens + 1) o.shape d
    ∙ ap (λ (n : ℕ). levels n more) l

-- ---- what is counted is open

-- whole words and lists more
pub opened_more : (text : List ℕ) (opens : List ℕ) (ts more : List Token) (g : Forest) → HasOpened text ts opens → HasForest text more g → length opens + depth g ≤ 64 → HasOpened text (ts ++ more) opens
opened_more text [] ts more g h k d = (joined h.0 g, forest_join text h.0 ts g more h.1 k, let m = depth-joined h.0 g in omega (arith, m, h.2))
opened_more text (at ∷ opens) ts more g h k d =
    let o = h.2 in
    let m = depth-joined h.1 g in (
      h.0,
      joined h.1 g,
      record {
        bracket = o.bracket;
        within = o.within ++ more;
        parts = ap (λ (x : List Token). x ++ more) o.parts ∙ append_assoc h.0 (o.bracket ∷ o.within) more;
        left = o.left;
        place = o.place;
        shape = forest_join text h.1 o.within g more o.shape k;
      },
      (let b = h.3 in omega (arith, m, b)),
      h.4,
    )

pub opened_word : (text : List ℕ) (opens : List ℕ) (ts : List Token) (t : Token) → HasOpened text ts opens → length opens ≤ 64 → t.kind ≡ kind.Word → HasOpened text (ts ++ t ∷ []) opens
opened_word text opens ts t h b k = opened_more text opens ts (t ∷ []) (Word t.start (text_of text t) End) h (t, [], refl, k, refl, refl, refl) (omega arith)

pub opened_left : (text : List ℕ) (opens : List ℕ) (ts : List Token) (t : Token) → HasOpened text ts opens → length opens < 64 → t.kind ≡ kind.Left → HasOpened text (ts ++ t ∷ []) (t.start ∷ opens)
opened_left text opens ts t h b k = (ts, End, record { bracket = t; within = []; parts = refl; left = k; place = refl; shape = refl }, omega arith, h)

pub opened_right : (text : List ℕ) (at : ℕ) (opens : List ℕ) (ts : List Token) (t : Token) → HasOpened text ts (at ∷ opens) → t.kind ≡ kind.Right → HasOpened text (ts ++ t ∷ []) opens
opened_right text at opens ts t h k =
    let o = h.2 in
    let b = h.3 in
    let e : h.0 ++ (o.bracket ∷ (o.within ++ t ∷ [])) ≡ ts ++ t ∷ [] = sym (append_assoc h.0 (o.bracket ∷ o.within) (t ∷ [])) ∙ ap (λ (x : List Token). x ++ t ∷ []) (sym o.parts) in
    subst (λ (x : List Token). HasOpened text x opens) e
    (opened_more text opens h.0 (o.bracket ∷ (o.within ++ t ∷ [])) (Branch at h.1 End) h.4 (o.bracket, t, o.within, [], refl, o.left, o.place, k, o.shape, refl) (omega (arith, b)))
