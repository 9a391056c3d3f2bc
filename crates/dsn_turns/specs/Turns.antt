-- Points turned by eighths of a turn, and mirrored; coordinates in nm.
-- Cited by `turn` and by all that moves shapes
use Rattle.std.specs.Prelude.{◌≡◌, ℕ, zero, suc, ◌+◌, ◌*◌, ◌≤◌, ◌⊎◌, ℤ, pos, neg_ℤ, ◌+ℤ◌, ◌-ℤ◌, ◌≤ℤ◌, unsigned_abs}
use Rattle.seg_geometry.specs.declared.points.Pt.{Pt}
use Rattle.dsn_turns.specs.declared.turns.Flip.{Flip}
use Rattle.dsn_turns.specs.declared.turns.Flip.TheVariants.{Plain, Before, After}

-- neither is below 0, or neither is above 0
abbrev pub AreOneSided : ℤ → ℤ → Type 0
AreOneSided d r = ((pos 0 ≤ℤ d) × (pos 0 ≤ℤ r)) ⊎ ((d ≤ℤ pos 0) × (r ≤ℤ pos 0))

-- r is the greatest whole number with 2 r² at most d², with the sign of d
pub record IsRoot (d r : ℤ) : Type 0 where
  pub fits : 2 * (unsigned_abs r * unsigned_abs r) ≤ unsigned_abs d * unsigned_abs d
  pub greatest : (s : ℕ) → 2 * (s * s) ≤ unsigned_abs d * unsigned_abs d → s ≤ unsigned_abs r
  pub sign : AreOneSided d r

-- the point after a quarter turn
abbrev pub quarter : Pt → Pt
quarter p = record { x = neg_ℤ p.y; y = p.x }

-- the point after so many quarter turns
unfoldable pub quarters : ℕ → Pt → Pt
quarters zero p = p
quarters (suc m) p = quarters m (quarter p)

-- the point with its x negated
abbrev pub mirrored : Pt → Pt
mirrored p = record { x = neg_ℤ p.x; y = p.y }

-- the point, mirrored where that comes before the turn
abbrev pub flipped_before : Flip → Pt → Pt
flipped_before Plain p = p
flipped_before Before p = mirrored p
flipped_before After p = p

-- the point, mirrored where that comes after the turn
abbrev pub flipped_after : Flip → Pt → Pt
flipped_after Plain p = p
flipped_after Before p = p
flipped_after After p = mirrored p

-- q is p after an eighth of a turn
pub record IsEighth (p q : Pt) : Type 0 where
  pub x : IsRoot (p.x -ℤ p.y) q.x
  pub y : IsRoot (p.x +ℤ p.y) q.y

-- q is p after e eighths: m quarters of p, or of p after one eighth
abbrev pub IsAfterEighths : Pt → ℕ → Pt → Type 0
IsAfterEighths p e q =
    ((m : ℕ) × (e ≡ m + m) × (q ≡ quarters m p))
    ⊎ ((m : ℕ) × (h : Pt) × (e ≡ suc (m + m)) × IsEighth p h × (q ≡ quarters m h))

-- q is p, mirrored before or after or not at all, and turned by e eighths
abbrev pub IsTurned : Pt → ℕ → Flip → Pt → Type 0
IsTurned p e flip q = (r : Pt) × IsAfterEighths (flipped_before flip p) e r × (q ≡ flipped_after flip r)
