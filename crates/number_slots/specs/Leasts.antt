-- The least number of a set, whatever the order in which it is looked for.
use Rattle.std.specs.Prelude.{ℕ, ◌≤◌, Option, Some, None}

-- S holds of this number and of none below it; where there is no number, of none
abbrev pub IsLeast : (ℕ → Type 0) → Option ℕ → Type 0
IsLeast S None = (n : ℕ) → S n → ⊥
IsLeast S (Some n) = S n × ((m : ℕ) → S m → n ≤ m)
