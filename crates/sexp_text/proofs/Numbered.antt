-- The entry of each number fits what begins there.
use Rattle.std.proofs.Common.{◌≡◌, ℕ, zero, suc, ◌+◌, ◌-◌, ◌<◌, ◌≤◌, true, false, eqb, ltb, List, ◌∷◌, ◌++◌, length, get_or, refl, sym, ap, subst, ◌∙◌, arith, inl, inr, length-append}
use Rattle.std.proofs.lemmas.Bool.{cases_eq, cases_lt, eqb-true, false_from_ne_true}
use Rattle.std.proofs.lemmas.List.{get_or_append_left}
use Rattle.std.proofs.Math.Seq.{get_or-append_right}
use Rattle.sexp_text.specs.Forest.{Forest, End, Word, Branch}
use Rattle.sexp_text.specs.declared.cursor.TreeEntry.{TreeEntry}
use Rattle.sexp_text.specs.declared.cursor.TreeEntry.TheVariants as entries
use Rattle.sexp_text.specs.Nodes.{size, from, Lays, Fits}

pub lays_size : (pool : List ℕ) (f : Forest) (es : List TreeEntry) → Lays pool f es → length es ≡ size f
lays_size pool End es h = ap length h
lays_size pool (Word at word rest) es h = let e = ap length h.3 in let r = lays_size pool rest h.2 h.7 in omega (arith, e, r)
lays_size pool (Branch at inside rest) es h =
    let e = ap length h.2 in
    let a = length-append h.0 h.1 in
    let i = lays_size pool inside h.0 h.3 in
    let r = lays_size pool rest h.1 h.4 in
    omega (arith, e, a, i, r)

pub fits_later : (pool : List ℕ) (e : TreeEntry) (m n small count : ℕ) (g : Forest) → n + small ≤ m + count → Fits pool e m small g → Fits pool e n count g
fits_later pool e m n small count End l h = absurd h
fits_later pool (entries.Word last at start end) m n small count (Word a word rest) l h = h
fits_later pool (entries.Word last at start end) m n small count (Branch a inside rest) l h = absurd h
fits_later pool (entries.List last at k) m n small count (Word a word rest) l h = absurd h
fits_later pool (entries.List last at k) m n small count (Branch a inside rest) l h = (h.0, h.1, h.2, let b = h.3 in omega (arith, b, l))

zero_test : (n : ℕ) → (n ≡ 0 → ⊥) → eqb n 0 ≡ false
zero_test n h = false_from_ne_true (eqb n 0) (λ e. h (eqb-true n 0 e))

less_test : (m n : ℕ) → m < n → ltb m n ≡ true
less_test m n h = grind arith

more_test : (m n : ℕ) → n ≤ m → ltb m n ≡ false
more_test m n h = grind arith

get_later : (x : TreeEntry) (xs : List TreeEntry) (n : ℕ) (d : TreeEntry) → (n ≡ 0 → ⊥) → get_or (x ∷ xs) n d ≡ get_or xs (n - 1) d
get_later x xs zero d h = absurd (h refl)
get_later x xs (suc n) d h = let e : suc n - 1 ≡ n = omega arith in ap (λ (k : ℕ). get_or xs k d) (sym e)

pub fits_at : (pool : List ℕ) (f : Forest) (es : List TreeEntry) (n : ℕ) (d : TreeEntry) → Lays pool f es → n < length es → Fits pool (get_or es n d) n (length es) (from n f)
fits_at pool End es n d h l = let e = ap length h in absurd (omega (arith, e, l))
fits_at pool (Word at word rest) es n d h l =
    let e = ap length h.3 in
    elim (cases_eq n 0) [
      | inl z ↦ rw (z, h.3) (refl, refl, h.6)
      | inr k ↦
          let s : n - 1 < length h.2 = omega (arith, e, l, k) in
          let later = fits_at pool rest h.2 (n - 1) d h.7 s in
          let b : n + length h.2 ≤ n - 1 + length es = omega (arith, e, k) in
          rw (zero_test n k) (subst (λ (x : TreeEntry). Fits pool x n (length es) (from (n - 1) rest)) (sym (ap (λ (x : List TreeEntry). get_or x n d) h.3 ∙ get_later _ h.2 n d k))
          (fits_later pool (get_or h.2 (n - 1) d) (n - 1) n (length h.2) (length es) (from (n - 1) rest) b later))
    ]
fits_at pool (Branch at inside rest) es n d h l =
    let e = ap length h.2 in
    let a = length-append h.0 h.1 in
    let i = lays_size pool inside h.0 h.3 in
    elim (cases_eq n 0) [
      | inl z ↦ rw (z, h.2) (refl, refl, i, omega (arith, a))
      | inr k ↦
          let g : get_or es n d ≡ get_or (h.0 ++ h.1) (n - 1) d = ap (λ (x : List TreeEntry). get_or x n d) h.2 ∙ get_later _ (h.0 ++ h.1) n d k in
          elim (cases_lt (n - 1) (size inside)) [
            | inl s ↦
                let m : n - 1 < length h.0 = omega (arith, s, i) in
                let later = fits_at pool inside h.0 (n - 1) d h.3 m in
                let b : n + length h.0 ≤ n - 1 + length es = omega (arith, e, a, k) in
                rw (zero_test n k, less_test (n - 1) (size inside) s)
                (subst (λ (x : TreeEntry). Fits pool x n (length es) (from (n - 1) inside)) (sym (g ∙ get_or_append_left h.0 h.1 d (n - 1) m))
                (fits_later pool (get_or h.0 (n - 1) d) (n - 1) n (length h.0) (length es) (from (n - 1) inside) b later))
            | inr s ↦
                let m : length h.0 ≤ n - 1 = omega (arith, s, i) in
                let r : n - 1 - length h.0 < length h.1 = omega (arith, e, a, k, l, m) in
                let later = fits_at pool rest h.1 (n - 1 - length h.0) d h.4 r in
                let b : n + length h.1 ≤ n - 1 - length h.0 + length es = omega (arith, e, a, k, m) in
                rw (zero_test n k, more_test (n - 1) (size inside) s)
                (subst (λ (c : ℕ). Fits pool (get_or es n d) n (length es) (from (n - 1 - c) rest)) i
                (subst (λ (x : TreeEntry). Fits pool x n (length es) (from (n - 1 - length h.0) rest)) (sym (g ∙ get_or-append_right h.0 h.1 (n - 1) d m))
                (fits_later pool (get_or h.1 (n - 1 - length h.0) d) (n - 1 - length h.0) n (length h.1) (length es) (from (n - 1 - length h.0) rest) b later)))
          ]
    ]
