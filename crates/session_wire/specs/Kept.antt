-- The bytes that a feeder keeps, and the lines that are taken off them.
-- Left out: how the bytes were cut, which no answer depends on. Cited by `feed` and `take_line`.
use Rattle.std.specs.Prelude.{◌≡◌, ℕ, ◌≤◌, ◌<◌, ◌+◌, List, [], ◌∷◌, ◌++◌, length, take}
use Rattle.std.specs.List.{flat_map, AllByRecursion}
use Rattle.row_lists.specs.Limits.{line_limit_bytes}
use Rattle.session_wire.specs.Steps.{IsLine}
use Rattle.session_wire.specs.declared.feeder.Next.{Next}
use Rattle.session_wire.specs.declared.feeder.Next.TheVariants as nexts

-- a line with its line end
abbrev pub ended : List ℕ → List ℕ
ended line = line ++ 10 ∷ []

-- whole lines, and the bytes behind them
abbrev pub kept : List (List ℕ) → List ℕ → List ℕ
kept lines tail = flat_map ended lines ++ tail

-- the lines and the bytes behind them hold no line end
abbrev pub AreCut : List (List ℕ) → List ℕ → Type 0
AreCut lines tail = AllByRecursion IsLine lines × IsLine tail

-- the text is these lines and these bytes behind them
pub record IsCut (text : List ℕ) (lines : List (List ℕ)) (tail : List ℕ) : Type 0 where
  pub cut : AreCut lines tail
  pub whole : text ≡ kept lines tail

-- the length of the first line
abbrev pub first_length : List (List ℕ) → ℕ
first_length [] = 0
first_length (line ∷ lines) = length line

-- bytes that begin with more than a line may have hold no line end there
pub record IsOverlong (bytes : List ℕ) : Type 0 where
  pub many : line_limit_bytes < length bytes
  pub unended : IsLine (take (line_limit_bytes + 1) bytes)

-- the first line and its end come off, or there is no line end within what a line may have
abbrev pub Takes : List ℕ → List ℕ → Next → Type 0
Takes old new (nexts.Line bytes) = IsLine bytes × (length bytes ≤ line_limit_bytes) × (old ≡ bytes ++ 10 ∷ new)
Takes old new nexts.NotYet = IsLine old × (length old ≤ line_limit_bytes) × (new ≡ old)
Takes old new nexts.TooLong = IsOverlong old × (new ≡ old)
