-- The shapes of a keepout are within the limits.
use Rattle.std.proofs.Common.{◌≡◌, ℕ, ◌≤◌, List, [], length, Ok, subst}
use Rattle.sexp_text.specs.Forest.{Forest, End, Word, Branch}
use Rattle.sexp_text.specs.declared.units.Unit.{Unit as LengthUnit}
use Rattle.area_geometry.specs.declared.shapes.Shape.{Shape}
use Rattle.dsn_lists.specs.Results.{◌>>=◌, each}
use Rattle.dsn_lists.proofs.Bounds.{ok_is, err_gives, bind_ok}
use Rattle.dsn_shapes.specs.Drawn.{shape_item}
use Rattle.dsn_shapes.specs.Keepouts.{after_item, kept_of, behind_id, keep_shapes}
use Rattle.dsn_shapes.specs.Limits.{AreFitDrawn}
use Rattle.dsn_shapes.proofs.DrawnFits.{shape_item_fit, shape_item_few}

-- the list that the shapes come from
kept_parts : (u : LengthUnit) (layers : List (List ℕ)) (a : ℕ) (inside rest : Forest) (y : List Shape)
    → (shape_item u layers [] a inside >>= λ ss. each after_item tt rest >>= λ _. Ok ss) ≡ Ok y → shape_item u layers [] a inside ≡ Ok y
kept_parts u layers a inside rest y e =
    let s = bind_ok (shape_item u layers [] a inside) _ y e in
    let t = bind_ok (each after_item tt rest) _ y s.2 in
    subst (λ (xs : List Shape). shape_item u layers [] a inside ≡ Ok xs) (ok_is t.2) s.1

fit_kept_of : (u : LengthUnit) (layers : List (List ℕ)) (at : ℕ) (f : Forest) (y : List Shape) → kept_of u layers at f ≡ Ok y → AreFitDrawn (length layers) y
unfolding kept_of
fit_kept_of u layers at End y e = absurd (err_gives e)
fit_kept_of u layers at (Word a text rest) y e = absurd (err_gives e)
fit_kept_of u layers at (Branch a inside rest) y e = shape_item_fit u layers [] a inside y tt (kept_parts u layers a inside rest y e)

few_kept_of : (u : LengthUnit) (layers : List (List ℕ)) (at : ℕ) (f : Forest) (y : List Shape) → kept_of u layers at f ≡ Ok y → length y ≤ 32
unfolding kept_of
few_kept_of u layers at End y e = absurd (err_gives e)
few_kept_of u layers at (Word a text rest) y e = absurd (err_gives e)
few_kept_of u layers at (Branch a inside rest) y e = shape_item_few u layers [] a inside y (kept_parts u layers a inside rest y e)

-- the shapes of a keepout are within the limits
pub keep_shapes_fit : (u : LengthUnit) (layers : List (List ℕ)) (at : ℕ) (f : Forest) (y : List Shape) → keep_shapes u layers at f ≡ Ok y → AreFitDrawn (length layers) y
unfolding keep_shapes
keep_shapes_fit u layers at f y e = fit_kept_of u layers at (behind_id f) y e

-- a keepout has at most 32 shapes
pub keep_shapes_few : (u : LengthUnit) (layers : List (List ℕ)) (at : ℕ) (f : Forest) (y : List Shape) → keep_shapes u layers at f ≡ Ok y → length y ≤ 32
unfolding keep_shapes
keep_shapes_few u layers at f y e = few_kept_of u layers at (behind_id f) y e
