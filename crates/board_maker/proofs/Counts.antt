-- Numbers from one on, up to a count, and texts that are written for each
use Rattle.std.proofs.Common.{◌≡◌, ℕ, ◌+◌, ◌-◌, ◌<◌, suc, List, ◌∷◌, ◌++◌, map, ap, sym, ◌∙◌, append_assoc, arith}
use Rattle.std.specs.List.{flat_map, range_with_len}

-- the first of them, and the others
first_of : (k n : ℕ) → k < n → range_with_len k (n - k) ≡ k ∷ range_with_len (k + 1) (n - (k + 1))
first_of k n h = let more : n - k ≡ suc (n - (k + 1)) = omega arith in ap (range_with_len k) more

-- one more is written, and the texts of the others make it whole
pub one_written : (f : ℕ → List ℕ) (made new all : List ℕ) (k n : ℕ) → k < n → new ≡ made ++ f k → made ++ flat_map f (range_with_len k (n - k)) ≡ all → new ++ flat_map f (range_with_len (k + 1) (n - (k + 1))) ≡ all
one_written f made new all k n h e whole =
    let rest = flat_map f (range_with_len (k + 1) (n - (k + 1))) in
    ap (λ t. t ++ rest) e ∙ append_assoc made (f k) rest ∙ sym (ap (λ r. made ++ flat_map f r) (first_of k n h)) ∙ whole

-- the same of things that are made for each
pub one_made : {T : Type 0} (f : T → List ℕ) (g : ℕ → T) (made new all : List ℕ) (k n : ℕ) → k < n → new ≡ made ++ f (g k) → made ++ flat_map f (map g (range_with_len k (n - k))) ≡ all → new ++ flat_map f (map g (range_with_len (k + 1) (n - (k + 1)))) ≡ all
one_made {T} f g made new all k n h e whole =
    let rest = flat_map f (map g (range_with_len (k + 1) (n - (k + 1)))) in
    ap (λ t. t ++ rest) e ∙ append_assoc made (f (g k)) rest ∙ sym (ap (λ r. made ++ flat_map f (map g r)) (first_of k n h)) ∙ whole
