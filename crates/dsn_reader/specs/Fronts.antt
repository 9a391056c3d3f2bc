-- Names that were there before others came behind them.
-- Cited by: `read_wiring`, of the nets after a fault.
use Rattle.std.specs.Prelude.{◌≡◌, ℕ, List, ◌++◌}

-- the first names are the front of the second
pub record IsFront (old new : List (List ℕ)) : Type 0 where
  pub more : List (List ℕ)
  pub is : new ≡ old ++ more
