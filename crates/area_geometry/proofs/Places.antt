-- Points at their places.
use Rattle.std.proofs.Common.{◌≡◌, ℕ, ◌+◌, ◌<◌, ◌≤◌, List, [], ◌∷◌, length, get_or, map, take, arith, refl, sym, ap, subst, ◌∙◌}
use Rattle.std.specs.Prelude.{All, ℤ, pos, ◌+ℤ◌, Some, slice_get, unsigned_abs, FitsSigned}
use Rattle.std.specs.Int.{w64}
use Rattle.std.proofs.lemmas.Option.{slice_get-get_or, slice_get_within, get_or_from_slice_get}
use Rattle.std.proofs.lemmas.List.Elements.{All-more}
use Rattle.std.proofs.lemmas.Int.{ints, fits_signed_from_abs}
use Rattle.std.proofs.lemmas.List.{length-map, get_or-map}
use Rattle.seg_geometry.specs.declared.points.Pt.{Pt}
use Rattle.seg_geometry.specs.Points.{IsInRange}
use Rattle.area_geometry.specs.Copper.{moved}

pub moved_in_range : (at : Pt) (points : List Pt) (i : ℕ) (d : Pt) → i < length points → All IsInRange (map (moved at) points) → IsInRange (moved at (get_or points i d))
moved_in_range at points i d h all =
    subst (λ (p : Pt). IsInRange p) (get_or-map (moved at) points i d d h) (all i d (rw length-map h))

nothing_added : (x : ℤ) → x +ℤ pos 0 ≡ x
nothing_added x = omega (arith, ints)

-- points that are moved by nothing stay
pub moved_nowhere : (points : List Pt) → map (moved (record { x = pos 0; y = pos 0 })) points ≡ points
moved_nowhere [] = refl
moved_nowhere (p ∷ rest) = λ i. (record { x = nothing_added p.x i; y = nothing_added p.y i }) ∷ moved_nowhere rest i

-- where a point of a view lies
pub place_is : (at : Pt) (points : List Pt) (i : ℕ) (d : Pt) → i < length points → slice_get (map (moved at) points) i ≡ Some (moved at (get_or points i d))
place_is at points i d h =
    let within : i < length (map (moved at) points) = rw length-map h in
    slice_get-get_or (map (moved at) points) i d within ∙ ap Some (get_or-map (moved at) points i d d h)

short_fits : (z : ℤ) → unsigned_abs z ≤ 1000000000 → FitsSigned w64 z
short_fits z h = fits_signed_from_abs w64 z (omega arith)

-- the coordinates of a place in range fit 64 bits
pub record PlaceFits (at p : Pt) : Type 0 where
  pub x : FitsSigned w64 (p.x +ℤ at.x)
  pub y : FitsSigned w64 (p.y +ℤ at.y)

pub place_fits : (at p : Pt) → IsInRange (moved at p) → PlaceFits at p
place_fits at p h = record { x = short_fits _ h.x; y = short_fits _ h.y }

-- ---- lists that are walked by their indices

pub All-at : {X : Type 0} (P : X → Type 0) (xs : List X) (i : ℕ) (x : X) → slice_get xs i ≡ Some x → All P xs → P x
All-at P xs i x e all = subst P (get_or_from_slice_get xs i x x e) (all i x (slice_get_within xs i x e))

pub All-walked : {X : Type 0} (P : X → Type 0) (xs : List X) (i : ℕ) (x : X) → slice_get xs i ≡ Some x → All P (take i xs) → P x → All P (take (i + 1) xs)
All-walked P xs i x e all h = All-more P xs i x (slice_get_within xs i x e) all (subst P (sym (get_or_from_slice_get xs i x x e)) h)
