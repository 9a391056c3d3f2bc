-- The least boundaries that walks find, and all that they find.
use Rattle.std.proofs.Common.{◌≡◌, ℕ, ◌+◌, ◌<◌, ◌≤◌, List, [], ◌∷◌, ◌++◌, length, take, refl, sym, ap, subst, ◌∙◌, arith, inl, inr, true}
use Rattle.std.specs.Prelude.{◌⊎◌, ◌↔◌, Some, slice_get}
use Rattle.std.specs.List.Sorted.{IsStrictlyIncreasing}
use Rattle.std.proofs.lemmas.List.{take_all}
use Rattle.seg_geometry.specs.declared.points.Pt.{Pt}
use Rattle.area_geometry.specs.Copper.{Copper}
use Rattle.number_slots.specs.Leasts.{IsLeast}
use Rattle.number_slots.specs.Slots.{is_among, IsAt, IsRisingFrom}
use Rattle.number_slots.proofs.ByNumber.{at_either, at_front, at_back}
use Rattle.boundaries.specs.Boundaries.{Boundary, IsEntitled}
use Rattle.boundaries.specs.Touching.{TouchesBoundary, IsTouched, IsForeign, Overlaps, IsOverlapped}
use Rattle.boundaries.proofs.Walked.{NoneIs, read_at, least_at, taken_on, before_at, among_pushed, pushed_among, rising_pushed}

-- the boundary under a number above this one is touched by the shapes, and doesn't entitle the client
abbrev pub Bars : List Copper → ℕ → ℕ → ℕ → Boundary → Type 0
Bars shapes client above n b = (above < n) × (IsEntitled b client → ⊥) × TouchesBoundary shapes b

pub foreign_found : (xs : List (ℕ × Boundary)) (shapes : List Copper) (client above i n : ℕ) (x : ℕ × Boundary) → IsRisingFrom 1 xs → slice_get xs i ≡ Some x → NoneIs (Bars shapes client above) (take i xs) → Bars shapes client above x.0 x.1 → n ≡ x.0 → IsLeast (IsForeign xs shapes client above) (Some n)
foreign_found xs shapes client above i n x rising e none bars is = subst (λ (m : ℕ). IsLeast (IsForeign xs shapes client above) (Some m)) (sym is) (
  record { past = bars.0; boundary = x.1; boundary_is = read_at xs i x e; foreign = bars.1; touched = bars.2 },
  λ (m : ℕ) (f : IsForeign xs shapes client above m). least_at 1 (Bars shapes client above) xs i x rising e none m f.boundary f.boundary_is (f.past, f.foreign, f.touched),
)

pub foreign_none : (xs : List (ℕ × Boundary)) (shapes : List Copper) (client above : ℕ) → NoneIs (Bars shapes client above) xs → (n : ℕ) → IsForeign xs shapes client above n → ⊥
foreign_none xs shapes client above none n f = none n f.boundary f.boundary_is (f.past, f.foreign, f.touched)

-- the boundary is overlapped, and doesn't entitle the client
abbrev pub IsBarred : List ℕ → List Pt → ℕ → ℕ → Boundary → Type 0
IsBarred layers area client n b = (IsEntitled b client → ⊥) × Overlaps layers area b

pub overlapped_found : (xs : List (ℕ × Boundary)) (layers : List ℕ) (area : List Pt) (client i n : ℕ) (x : ℕ × Boundary) → IsRisingFrom 1 xs → slice_get xs i ≡ Some x → NoneIs (IsBarred layers area client) (take i xs) → IsBarred layers area client x.0 x.1 → n ≡ x.0 → IsLeast (IsOverlapped xs layers area client) (Some n)
overlapped_found xs layers area client i n x rising e none bars is = subst (λ (m : ℕ). IsLeast (IsOverlapped xs layers area client) (Some m)) (sym is) (
  record { boundary = x.1; boundary_is = read_at xs i x e; foreign = bars.0; overlaps = bars.1 },
  λ (m : ℕ) (f : IsOverlapped xs layers area client m). least_at 1 (IsBarred layers area client) xs i x rising e none m f.boundary f.boundary_is (f.foreign, f.overlaps),
)

pub overlapped_none : (xs : List (ℕ × Boundary)) (layers : List ℕ) (area : List Pt) (client : ℕ) → NoneIs (IsBarred layers area client) xs → (n : ℕ) → IsOverlapped xs layers area client n → ⊥
overlapped_none xs layers area client none n f = none n f.boundary f.boundary_is (f.foreign, f.overlaps)

-- ---- all that are touched

-- the numbers are those of the boundaries that the shapes touch, and rise
pub record AreTouched (xs : List (ℕ × Boundary)) (shapes : List Copper) (ids : List ℕ) : Type 0 where
  pub exact : (n : ℕ) → (is_among n ids ≡ true) ↔ IsTouched xs shapes n
  pub rising : IsStrictlyIncreasing ids

pub touched_first : (xs : List (ℕ × Boundary)) (shapes : List Copper) (ids : List ℕ) → ids ≡ [] → AreTouched (take 0 xs) shapes ids
touched_first xs shapes ids is = subst (AreTouched (take 0 xs) shapes) (sym is) (record {
  exact = λ n. (λ e. absurd (cc), λ (t : IsTouched [] shapes n). absurd t.boundary_is);
  rising = λ k lt. absurd (omega arith);
})

more_touched : (xs : List (ℕ × Boundary)) (shapes : List Copper) (i : ℕ) (x : ℕ × Boundary) → slice_get xs i ≡ Some x → (n : ℕ) → IsTouched (take i xs) shapes n → IsTouched (take (i + 1) xs) shapes n
more_touched xs shapes i x e n t = record {
  boundary = t.boundary;
  boundary_is = subst (λ (ys : List (ℕ × Boundary)). IsAt ys n t.boundary) (sym (taken_on xs i x e)) (at_front (take i xs) (x ∷ []) n t.boundary t.boundary_is);
  touched = t.touched;
}

less_touched : (xs : List (ℕ × Boundary)) (shapes : List Copper) (i : ℕ) (x : ℕ × Boundary) → slice_get xs i ≡ Some x → (n : ℕ) → IsTouched (take (i + 1) xs) shapes n → IsTouched (take i xs) shapes n ⊎ ((x.0 ≡ n) × TouchesBoundary shapes x.1)
less_touched xs shapes i x e n t =
    let split : IsAt (take i xs ++ x ∷ []) n t.boundary = subst (λ (ys : List (ℕ × Boundary)). IsAt ys n t.boundary) (taken_on xs i x e) t.boundary_is in
    elim (at_either (take i xs) (x ∷ []) n t.boundary split) [
      | inl f ↦ inl (record { boundary = t.boundary; boundary_is = f; touched = t.touched })
      | inr g ↦ elim g [ inl s ↦ inr (s.0, subst (TouchesBoundary shapes) (sym s.1) t.touched) | inr s ↦ absurd s ]
    ]

-- the next boundary isn't touched
pub touched_not : (xs : List (ℕ × Boundary)) (shapes : List Copper) (ids : List ℕ) (i : ℕ) (x : ℕ × Boundary) → slice_get xs i ≡ Some x → AreTouched (take i xs) shapes ids → (TouchesBoundary shapes x.1 → ⊥) → AreTouched (take (i + 1) xs) shapes ids
touched_not xs shapes ids i x e are here = record {
  exact = λ n. (
    λ a. more_touched xs shapes i x e n ((are.exact n).0 a),
    λ t. elim (less_touched xs shapes i x e n t) [ inl f ↦ (are.exact n).1 f | inr g ↦ absurd (here g.1) ],
  );
  rising = are.rising;
}

-- the next boundary is touched
pub touched_on : (xs : List (ℕ × Boundary)) (shapes : List Copper) (ids new : List ℕ) (i n : ℕ) (x : ℕ × Boundary) → IsRisingFrom 1 xs → slice_get xs i ≡ Some x → AreTouched (take i xs) shapes ids → TouchesBoundary shapes x.1 → n ≡ x.0 → new ≡ ids ++ n ∷ [] → AreTouched (take (i + 1) xs) shapes new
touched_on xs shapes ids new i m x r e are here is pushed = subst (AreTouched (take (i + 1) xs) shapes) (sym (pushed ∙ ap (λ (k : ℕ). ids ++ k ∷ []) is)) (record {
  exact = λ n. (
    λ a. elim (pushed_among x.0 n ids a) [
      | inl f ↦ more_touched xs shapes i x e n ((are.exact n).0 f)
      | inr g ↦ record {
        boundary = x.1;
        boundary_is = subst (λ (ys : List (ℕ × Boundary)). IsAt ys n x.1) (sym (taken_on xs i x e)) (at_back (take i xs) (x ∷ []) n x.1 (inl (g, refl)));
        touched = here;
      }
    ],
    λ t. among_pushed x.0 n ids (elim (less_touched xs shapes i x e n t) [ inl f ↦ inl ((are.exact n).1 f) | inr g ↦ inr g.0 ]),
  );
  rising = rising_pushed ids x.0 are.rising (λ n a. let t = (are.exact n).0 a in before_at 1 xs i x n t.boundary r e t.boundary_is);
})

-- a walk that ended saw all
pub touched_all : (xs : List (ℕ × Boundary)) (shapes : List Copper) (ids : List ℕ) (i : ℕ) → length xs ≤ i → AreTouched (take i xs) shapes ids → AreTouched xs shapes ids
touched_all xs shapes ids i le are = subst (λ (ys : List (ℕ × Boundary)). AreTouched ys shapes ids) (take_all i xs le) are
