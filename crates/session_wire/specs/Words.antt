-- The words of a line: bytes without a space, with exactly one space between two of them.
use Rattle.std.specs.Prelude.{ℕ, ◌≡◌, ◌≢◌, List, [], ◌∷◌}
use Rattle.std.specs.List.{AllByRecursion}

-- bytes without a space
abbrev pub IsWord : List ℕ → Type 0
IsWord word = AllByRecursion (λ b. b ≢ 32) word

-- a word may end in front of these bytes: there are none, or a space comes first
abbrev pub EndsWord : List ℕ → Type 0
EndsWord [] = Unit {0}
EndsWord (b ∷ rest) = b ≡ 32
