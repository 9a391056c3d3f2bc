-- What is built of the tokens of a forest are the entries of the forest.
use Rattle.std.proofs.Common.{◌≡◌, ℕ, ◌+◌, ◌-◌, ◌≤◌, false, eqb, List, [], ◌∷◌, ◌++◌, length, take, drop, sym, ap, ◌∙◌, arith, length-append}
use Rattle.std.proofs.Common.{suc, length-drop}
use Rattle.std.proofs.lemmas.List.{drop-append-le, take-append-le}
use Rattle.std.proofs.lemmas.Bool.{eq-eqb, eqb-true, false_from_ne_true}
use Rattle.sexp_text.specs.Forest.{Forest, End, Word, Branch}
use Rattle.sexp_text.specs.declared.cursor.TreeEntry.{TreeEntry}
use Rattle.sexp_text.specs.Build.{base}
use Rattle.sexp_text.specs.Nodes.{is_end, Lays}

-- ---- texts are put behind those that are there

slice_more : (xs ys : List ℕ) (start end : ℕ) → start ≤ end → end ≤ length xs → take (end - start) (drop start (xs ++ ys)) ≡ take (end - start) (drop start xs)
slice_more xs ys start end a h =
    let b : start ≤ length xs = omega arith in
    let c : end - start ≤ length (drop start xs) = omega (arith, length-drop start xs) in
    ap (λ (x : List ℕ). take (end - start) x) (drop-append-le start xs ys b) ∙ take-append-le (end - start) (drop start xs) ys c

pub lays_more : (pool more : List ℕ) (f : Forest) (es : List TreeEntry) → Lays pool f es → Lays (pool ++ more) f es
lays_more pool more End es h = h
lays_more pool more (Word at word rest) es h =
    (h.0, h.1, h.2, h.3, h.4, (let k = h.5 in omega (arith, k, length-append pool more)), slice_more pool more h.0 h.1 h.4 h.5 ∙ h.6, lays_more pool more rest h.2 h.7)
lays_more pool more (Branch at inside rest) es h = (h.0, h.1, h.2, lays_more pool more inside h.0 h.3, lays_more pool more rest h.1 h.4)

-- ---- the entries of lists within lists

-- the entries of each forest behind those of the forests within it, and a mark for each but the outermost
abbrev pub Stacked : List ℕ → List Forest → List ℕ → List TreeEntry → Type 0
Stacked pool [] marks es = ⊥
Stacked pool (f ∷ []) marks es = (marks ≡ []) × Lays pool f es
Stacked pool (f ∷ g ∷ fs) marks es =
    (segment : List TreeEntry) × (below : List TreeEntry) × (ms : List ℕ) × (es ≡ segment ++ below) × (marks ≡ length below ∷ ms) × Lays pool f segment × Stacked pool (g ∷ fs) ms below

pub stacked_more : (pool more : List ℕ) (fs : List Forest) (marks : List ℕ) (es : List TreeEntry) → Stacked pool fs marks es → Stacked (pool ++ more) fs marks es
stacked_more pool more [] marks es h = absurd h
stacked_more pool more (f ∷ []) marks es h = (h.0, lays_more pool more f es h.1)
stacked_more pool more (f ∷ g ∷ fs) marks es h = (h.0, h.1, h.2, h.3, h.4, lays_more pool more f h.0 h.5, stacked_more pool more (g ∷ fs) h.2 h.1 h.6)

unequal : (k n : ℕ) → eqb (suc k + n) n ≡ false
unequal k n = false_from_ne_true (eqb (suc k + n) n) (λ e. let h : suc k + n ≡ n = eqb-true (suc k + n) n e in omega (arith, h))

lays_none : (pool : List ℕ) (f : Forest) (es : List TreeEntry) (n : ℕ) → Lays pool f es → eqb (length es + n) n ≡ is_end f
lays_none pool End es n h = rw h (let e : length {A = TreeEntry} [] + n ≡ n = omega arith in eq-eqb (length {A = TreeEntry} [] + n) n e)
lays_none pool (Word at word rest) es n h = rw h.3 (unequal (length h.2) n)
lays_none pool (Branch at inside rest) es n h = rw h.2 (unequal (length (h.0 ++ h.1)) n)

-- nothing was read of a list exactly where its forest is empty
pub last_test : (pool : List ℕ) (f : Forest) (fs : List Forest) (marks : List ℕ) (es : List TreeEntry) → Stacked pool (f ∷ fs) marks es → eqb (length es) (base marks) ≡ is_end f
last_test pool f [] marks es h = rw h.0 (let e : length es + 0 ≡ length es = omega arith in ap (λ (n : ℕ). eqb n 0) (sym e) ∙ lays_none pool f es 0 h.1)
last_test pool f (g ∷ fs) marks es h =
    let e : length es ≡ length h.0 + length h.1 = ap length h.3 ∙ length-append h.0 h.1 in
    rw (h.4, e) (lays_none pool f h.0 (length h.1) h.5)
