-- Sums over things by their number.
use Rattle.std.specs.Prelude.{ℕ, ◌+◌, ◌&&◌, nat_le, nat_lt, if◌then◌else◌, List, [], ◌∷◌}

-- the sum over things with numbers from n on and below m
abbrev pub sum_between : {T : Type 0} → (T → ℕ) → ℕ → ℕ → List (ℕ × T) → ℕ
sum_between w n m [] = 0
sum_between w n m (x ∷ rest) = (if nat_le n x.0 && nat_lt x.0 m then w x.1 else 0) + sum_between w n m rest

-- the sum over all
abbrev pub sum_of : {T : Type 0} → (T → ℕ) → List (ℕ × T) → ℕ
sum_of w [] = 0
sum_of w (x ∷ rest) = w x.1 + sum_of w rest
