-- What is found near the shapes of an item, one after another.
use Rattle.std.proofs.Common.{◌≡◌, ◌↔◌, ℕ, ◌+◌, ◌≤◌, List, [], ◌∷◌, ◌++◌, length, take, refl, sym, ap, subst, ◌∙◌, inl, inr}
use Rattle.std.specs.Prelude.{All, Any, ◌⊎◌, Some, slice_get}
use Rattle.std.specs.List.{Contains}
use Rattle.std.specs.List.Sorted.{IsStrictlyIncreasing}
use Rattle.std.proofs.lemmas.List.{take_all, take_more}
use Rattle.std.proofs.lemmas.Option.{slice_get_within, get_or_from_slice_get}
use Rattle.std.proofs.lemmas.List.Elements.{All-weaker, Contains-append_right, Contains-append_cases}
use Rattle.seg_geometry.specs.declared.near.Filed.{Filed}
use Rattle.seg_geometry.specs.declared.rectangles.Rect.{Rect}
use Rattle.seg_geometry.specs.Near.{AreNear}
use Rattle.area_geometry.specs.Copper.{Copper}
use Rattle.area_geometry.specs.Boxes.{IsBox}
use Rattle.area_geometry.proofs.Places.{All-walked}
use Rattle.check_core.specs.Filings.{FindsNear, FindsAll, IsFoundBy}
use Rattle.check_core.proofs.Growth.{any_front, any_last}

-- what an index tells near a box, behind what was found before
pub found_of : (by : ℕ) (filed : List Filed) (s : Copper) (box : Rect) (ids old new : List ℕ) → IsBox box s by → AreNear s.layer box filed ids → new ≡ old ++ ids → FindsNear by filed new s
found_of by filed s box ids old new is near e = record {
  box = box;
  box_is = is;
  found = λ f there by'. subst (λ (l : List ℕ). Contains l f.id) (sym e)
      (Contains-append_right old ids f.id ((near.exact f.id).1 (there.0, f, there.1, there.2, (refl, by'))));
}

-- and nothing else
pub sound_of : (by : ℕ) (filed : List Filed) (s : Copper) (box : Rect) (ids old new : List ℕ) → IsBox box s by → AreNear s.layer box filed ids → new ≡ old ++ ids → (id : ℕ) → Contains new id → Contains old id ⊎ IsFoundBy by filed id s
sound_of by filed s box ids old new is near e id h = elim (Contains-append_cases old ids id (subst (λ (l : List ℕ). Contains l id) e h)) [
  | inl a ↦ inl a
  | inr b ↦ (let f = (near.exact id).0 b in inr (record { box = box; box_is = is; file = f.1; file_is = (f.0, f.2, f.3); of = f.4.0; near = f.4.1 }))
]

-- one more shape, of which no other ids are found
pub sound_more : (by : ℕ) (filed : List Filed) (shapes : List Copper) (i : ℕ) (s : Copper) (old new : List ℕ) → slice_get shapes i ≡ Some s → ((id : ℕ) → Contains new id → Contains old id ⊎ IsFoundBy by filed id s)
    → ((id : ℕ) → Contains old id → Any (IsFoundBy by filed id) (take i shapes)) → (id : ℕ) → Contains new id → Any (IsFoundBy by filed id) (take (i + 1) shapes)
sound_more by filed shapes i s old new is split h id c =
    let cut : take (i + 1) shapes ≡ take i shapes ++ s ∷ [] = take_more shapes i s (slice_get_within shapes i s is) ∙ ap (λ (z : Copper). take i shapes ++ z ∷ []) (get_or_from_slice_get shapes i s s is) in
    subst (λ (ss : List Copper). Any (IsFoundBy by filed id) ss) (sym cut) (elim (split id c) [
      | inl a ↦ any_front (IsFoundBy by filed id) (take i shapes) s (h id a)
      | inr b ↦ any_last (IsFoundBy by filed id) (take i shapes) s b
    ])

pub sound_all : (by : ℕ) (filed : List Filed) (shapes : List Copper) (i : ℕ) (found ids : List ℕ) → length shapes ≤ i → ((id : ℕ) → Contains ids id ↔ Contains found id) → ((id : ℕ) → Contains found id → Any (IsFoundBy by filed id) (take i shapes))
    → (id : ℕ) → Contains ids id → Any (IsFoundBy by filed id) shapes
sound_all by filed shapes i found ids past same h id c = subst (λ (ss : List Copper). Any (IsFoundBy by filed id) ss) (take_all i shapes past) (h id ((same id).0 c))

-- more ids lose nothing
pub near_kept : (by : ℕ) (filed : List Filed) (s : Copper) (old new : List ℕ) → ((id : ℕ) → Contains old id → Contains new id) → FindsNear by filed old s → FindsNear by filed new s
near_kept by filed s old new kept h = record { box = h.box; box_is = h.box_is; found = λ f there near. kept f.id (h.found f there near) }

pub all_kept : (by : ℕ) (filed : List Filed) (shapes : List Copper) (old new : List ℕ) → ((id : ℕ) → Contains old id → Contains new id) → All (FindsNear by filed old) shapes → All (FindsNear by filed new) shapes
all_kept by filed shapes old new kept h = All-weaker (FindsNear by filed old) (FindsNear by filed new) (λ s near. near_kept by filed s old new kept near) shapes h

-- one more shape
pub found_more : (by : ℕ) (filed : List Filed) (shapes : List Copper) (i : ℕ) (s : Copper) (old new : List ℕ) → slice_get shapes i ≡ Some s → ((id : ℕ) → Contains old id → Contains new id) → FindsNear by filed new s
    → All (FindsNear by filed old) (take i shapes) → All (FindsNear by filed new) (take (i + 1) shapes)
found_more by filed shapes i s old new is kept here h = All-walked (FindsNear by filed new) shapes i s is (all_kept by filed (take i shapes) old new kept h) here

-- all shapes, and the ids put in order
pub found_all : (by : ℕ) (filed : List Filed) (shapes : List Copper) (i : ℕ) (found ids : List ℕ) → length shapes ≤ i → ((id : ℕ) → Contains ids id ↔ Contains found id) → IsStrictlyIncreasing ids
    → All (FindsNear by filed found) (take i shapes) → FindsAll by shapes filed ids
found_all by filed shapes i found ids past same rising h = record {
  all = all_kept by filed shapes found ids (λ id c. (same id).1 c) (subst (λ (ss : List Copper). All (FindsNear by filed found) ss) (take_all i shapes past) h);
  rising = rising;
}
