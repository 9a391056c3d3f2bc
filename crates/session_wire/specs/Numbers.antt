-- The one spelling of numbers: decimal digits without a leading zero.
use Rattle.std.specs.Prelude.{ℕ, ◌≤◌, ◌<◌, ◌^◌, List, ◌∷◌, decimal}

-- a number behind a space
abbrev pub number_text : ℕ → List ℕ
number_text n = 32 ∷ decimal n

-- a number between two bounds
abbrev pub IsBetween : ℕ → ℕ → ℕ → Type 0
IsBetween least most n = (least ≤ n) × (n ≤ most)

-- the number of an item, a net, a wire's layer, a padstack or a boundary
abbrev pub IsId : ℕ → Type 0
IsId id = id < 2 ^ 32

-- the number of a boundary's layer, or of a client that a boundary names
abbrev pub IsSmall : ℕ → Type 0
IsSmall n = n < 256
