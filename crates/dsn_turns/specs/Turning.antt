-- Points and shapes led through turns and moves, as the functions compute them.
-- `IsTurned` and `AreMoved` say where they come to lie; `proofs/` has the bridge, both ways.
use Rattle.std.specs.Prelude.{ℕ, zero, suc, ◌-◌, ◌*◌, ◌/◌, ◌%◌, nat_le, ◌==◌, Bool, ◌&&◌, ℤ, pos, negsuc, neg_ℤ, ◌+ℤ◌, ◌-ℤ◌, unsigned_abs, List, [], ◌∷◌, Option, Some, None, if◌then◌else◌}
use Rattle.row_lists.specs.Limits.{coordinate_limit_nm}
use Rattle.seg_geometry.specs.declared.points.Pt.{Pt}
use Rattle.area_geometry.specs.declared.shapes.Core.{Core}
use Rattle.area_geometry.specs.declared.shapes.Core.TheVariants.{Chain, Area}
use Rattle.area_geometry.specs.declared.shapes.Shape.{Shape}
use Rattle.area_geometry.specs.Copper.{moved}
use Rattle.dsn_turns.specs.declared.turns.Flip.{Flip}
use Rattle.dsn_turns.specs.declared.moves.Motion.{Motion}
use Rattle.dsn_turns.specs.Turns.{quarters, flipped_before, flipped_after}

-- the greatest number up to a limit with twice its square at most d²
unfoldable pub root_up_to : ℕ → ℕ → ℕ
root_up_to d zero = 0
root_up_to d (suc limit) = if nat_le (2 * (suc limit * suc limit)) (d * d) then suc limit else root_up_to d limit

-- the greatest number with twice its square at most d²
unfoldable pub size_root : ℕ → ℕ
size_root d = root_up_to d d

-- the same with the sign of d
abbrev pub root_of : ℤ → ℤ
root_of (pos d) = pos (size_root d)
root_of (negsuc d) = neg_ℤ (pos (size_root (suc d)))

-- the point after an eighth of a turn
unfoldable pub eighth : Pt → Pt
eighth p = record { x = root_of (p.x -ℤ p.y); y = root_of (p.x +ℤ p.y) }

-- the point after the part of a turn that is no quarter
abbrev pub begun : ℕ → Pt → Pt
begun e p = if e % 2 == 0 then p else eighth p

-- the point after e eighths, mirrored before or after or not at all
unfoldable pub turned : Pt → ℕ → Flip → Pt
turned p e flip = flipped_after flip (quarters (e / 2) (begun e (flipped_before flip p)))

-- neither coordinate is more than 1,000,000,000 nm from 0
abbrev pub is_within : Pt → Bool
is_within p = nat_le (unsigned_abs p.x) coordinate_limit_nm && nat_le (unsigned_abs p.y) coordinate_limit_nm

-- the point where it is in range
unfoldable pub within : Pt → Option Pt
within p = if is_within p then Some p else None

-- the turned point where it is in range
unfoldable pub turn_of : Pt → ℕ → Flip → Option Pt
turn_of p e flip = within (turned p e flip)

-- f of what there is
abbrev pub and_then : {A B : Type 0} → Option A → (A → Option B) → Option B
and_then None f = None
and_then (Some x) f = f x

-- f of each, where there is one for each
unfoldable pub each_of : {A B : Type 0} → (A → Option B) → List A → Option (List B)
each_of f [] = Some []
each_of f (x ∷ xs) = and_then (f x) (λ y. and_then (each_of f xs) (λ ys. Some (y ∷ ys)))

-- the point after a turn and the move behind it, where each is in range
unfoldable pub step_of : Motion → Pt → Option Pt
step_of s p = and_then (turn_of p s.eighths s.flip) (λ q. within (moved s.by q))

-- the point after a turn and the move behind it, wherever it comes to lie
abbrev pub carried : Motion → Pt → Pt
carried s p = moved s.by (turned p s.eighths s.flip)

-- the point after the steps in order
unfoldable pub through : List Motion → Pt → Option Pt
through [] p = Some p
through (s ∷ steps) p = and_then (step_of s p) (through steps)

-- the layer, or its number from the other side on a board of so many layers
abbrev pub over_layer : Option ℕ → ℕ → ℕ
over_layer None layer = layer
over_layer (Some n) layer = n - 1 - layer

-- the core after the steps
abbrev pub core_moved : List Motion → Core → Option Core
core_moved steps (Chain points) = and_then (each_of (through steps) points) (λ moved. Some (Chain moved))
core_moved steps (Area points) = and_then (each_of (through steps) points) (λ moved. Some (Area moved))

-- the shape after the steps
unfoldable pub shape_moved : List Motion → Option ℕ → Shape → Option Shape
shape_moved steps over s = and_then (core_moved steps s.core) (λ core. Some (record { layer = over_layer over s.layer; core = core; width = s.width }))

-- the shapes after the steps
abbrev pub shapes_moved : List Motion → Option ℕ → List Shape → Option (List Shape)
shapes_moved steps over shapes = each_of (shape_moved steps over) shapes
