-- Products by their sign and their size
-- Cited by the steps of `cross_sign`
use Rattle.std.specs.Prelude.{ℕ, ℤ, Bool, pos, neg_ℤ, if◌then◌else◌}

-- the number of this size, below 0 or not
abbrev pub signed : Bool → ℕ → ℤ
signed negative size = if negative then neg_ℤ (pos size) else pos size
