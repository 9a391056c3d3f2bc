-- A forest doesn't depend on how many entries were allowed.
use Rattle.std.proofs.Common.{◌≡◌, ℕ, Bool, zero, suc, ◌-◌, ◌≤◌, List, [], ◌∷◌, length, take, drop, refl, ap, ◌∙◌, arith, min}
use Rattle.std.proofs.lemmas.List.{length-take}
use Rattle.std.proofs.Common.{length-drop}
use Rattle.sexp_text.specs.Forest.{Forest, End, Word, Branch}
use Rattle.sexp_text.specs.Shows.{grown}
use Rattle.sexp_text.specs.declared.cursor.TreeEntry.{TreeEntry}
use Rattle.sexp_text.specs.declared.cursor.TreeEntry.TheVariants as entries

pub grown-enough : (n m : ℕ) (text : List ℕ) (es : List TreeEntry) → length es ≤ n → length es ≤ m → grown n text es ≡ grown m text es
unfolding grown
grown-enough zero zero text es p q = refl
grown-enough zero (suc m) text [] p q = refl
grown-enough zero (suc m) text (e ∷ es) p q = absurd (omega arith)
grown-enough (suc n) zero text [] p q = refl
grown-enough (suc n) zero text (e ∷ es) p q = absurd (omega arith)
grown-enough (suc n) (suc m) text [] p q = refl
grown-enough (suc n) (suc m) text (entries.Word last at start end ∷ es) p q = ap (λ (f : Forest). Word at (take (end - start) (drop start text)) f) (grown-enough n m text es (omega arith) (omega arith))
grown-enough (suc n) (suc m) text (entries.List last at inside ∷ es) p q =
    let k = min inside (length es) in
    let a = grown-enough n m text (take (min inside (length es)) es) (omega (arith, length-take (min inside (length es)) es)) (omega (arith, length-take (min inside (length es)) es)) in
    let b = grown-enough n m text (drop (min inside (length es)) es) (omega (arith, length-drop (min inside (length es)) es)) (omega (arith, length-drop (min inside (length es)) es)) in
    ap (λ (f : Forest). Branch at f (grown n text (drop (min inside (length es)) es))) a ∙ ap (λ (f : Forest). Branch at (grown m text (take (min inside (length es)) es)) f) b

pub at_end : (text : List ℕ) (es : List TreeEntry) → es ≡ [] → grown (length es) text es ≡ End
unfolding grown
at_end text es e = rw e refl

pub at_word : (text : List ℕ) (es rest : List TreeEntry) (last : Bool) (at start end : ℕ) → es ≡ entries.Word last at start end ∷ rest → grown (length es) text es ≡ Word at (take (end - start) (drop start text)) (grown (length rest) text rest)
unfolding grown
at_word text es rest last at start end e = rw e refl

pub at_list : (text : List ℕ) (es rest front back : List TreeEntry) (last : Bool) (at inside : ℕ) → es ≡ entries.List last at inside ∷ rest → front ≡ take (min inside (length rest)) rest → back ≡ drop (min inside (length rest)) rest
    → grown (length es) text es ≡ Branch at (grown (length front) text front) (grown (length back) text back)
unfolding grown
at_list text es rest front back last at inside e f b =
    let p : length front ≤ length rest = rw f (omega (arith, length-take (min inside (length rest)) rest)) in
    let q : length back ≤ length rest = rw b (omega (arith, length-drop (min inside (length rest)) rest)) in
    let first : grown (length rest) text front ≡ grown (length front) text front = grown-enough (length rest) (length front) text front p (omega arith) in
    let second : grown (length rest) text back ≡ grown (length back) text back = grown-enough (length rest) (length back) text back q (omega arith) in
    rw (e, ← f, ← b) (ap (λ (x : Forest). Branch at x (grown (length rest) text back)) first ∙ ap (λ (x : Forest). Branch at (grown (length front) text front) x) second)
