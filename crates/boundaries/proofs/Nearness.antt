-- Shapes and areas whose boxes miss each other don't touch; where they meet, a test takes its steps.
use Rattle.std.proofs.Common.{◌≡◌, ℕ, suc, ◌+◌, ◌*◌, ◌≤◌, ◌==◌, List, [], ◌∷◌, length, map, true, arith, refl, sym}
use Rattle.std.specs.Prelude.{Any}
use Rattle.std.proofs.lemmas.Bool.{eqb-true}
use Rattle.std.proofs.lemmas.List.Folds.{list_any-from_Any}
use Rattle.number_slots.specs.Slots.{is_among}
use Rattle.boundaries.specs.Boundaries.{Boundary}
use Rattle.seg_geometry.specs.declared.points.Pt.{Pt}
use Rattle.seg_geometry.specs.declared.rectangles.Rect.{Rect}
use Rattle.seg_geometry.specs.Rectangles.{IsLeastGrown, Meets}
use Rattle.area_geometry.specs.Copper.{Copper, area_on, moved, pieces_of}
use Rattle.area_geometry.specs.Apart.{Touches}
use Rattle.area_geometry.specs.Boxes.{IsBox, AreBoxesNear}
use Rattle.area_geometry.proofs.Missed.{apart_by_boxes, apart_from_nothing}
use Rattle.area_geometry.proofs.Reaches.{near_told}
use Rattle.boundaries.specs.Costs.{near_most, overlap_most}

-- a shape whose box, moved out by 1 nm, misses that of an area doesn't touch it
pub missed : (s : Copper) (area : List Pt) (own frame : Rect) → IsBox own s 1 → IsLeastGrown frame area 0 → (Meets own frame → ⊥) → Touches s area → ⊥
missed s area own frame h k none t = t.near (apart_by_boxes s (area_on s.layer area) 1 1 0 own frame (omega arith) h (record { box = k }) (λ _. none))

-- a shape without points touches nothing
pub nothing_touches : (s : Copper) (area : List Pt) → s.points ≡ [] → Touches s area → ⊥
nothing_touches s area none t = t.near (apart_from_nothing s (area_on s.layer area) 1 none)

-- where the boxes meet, there is a step for each pair
pub steps_where_met : (s : Copper) (area : List Pt) (own frame : Rect) → IsBox own s 1 → IsLeastGrown frame area 0 → Meets own frame → near_most area s ≡ length (pieces_of s) * length area
unfolding near_most
steps_where_met s area own frame h k m =
    let near : AreBoxesNear 1 s (area_on s.layer area) = record { same_layer = refl; box = own; other = frame; box_is = h; other_is = record { box = k }; meet = m } in
    rw ((near_told 1 s (area_on s.layer area)).0 near) refl

-- no points, wherever they are moved
pub no_points : (at : Pt) (ps : List Pt) → true ≡ (length ps == 0) → map (moved at) ps ≡ []
no_points at [] e = refl
no_points at (p ∷ ps) e = let none : suc (length ps) ≡ 0 = eqb-true (suc (length ps)) 0 (sym e) in absurd (omega (arith, none))

-- the steps of a test against a boundary that has a layer of the area
pub overlap_within : (layers : List ℕ) (area : List Pt) (b : Boundary) (new old : ℕ) → Any (λ layer. is_among layer b.layers ≡ true) layers → new ≤ old + near_most b.area (area_on 0 area) → new ≤ old + overlap_most layers area b
unfolding overlap_most
overlap_within layers area b new old any le = rw (list_any-from_Any (λ layer. is_among layer b.layers) layers any) le
