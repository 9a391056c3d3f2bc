-- Items that can't be told to be too near keep their need.
use Rattle.std.proofs.Common.{ℕ, ◌+◌, ◌*◌, ℤ, List, [], ◌∷◌}
use Rattle.std.specs.Prelude.{Option, Some, None, ◌≤ℤ◌}
use Rattle.std.proofs.lemmas.Int.{by_lt_z}
use lib.Signed.{clash_ℤ}
use Rattle.seg_geometry.specs.declared.points.Pt.{Pt}
use Rattle.seg_geometry.specs.declared.points.Seg.{Seg}
use Rattle.seg_geometry.specs.Apart.{IsApart}
use Rattle.area_geometry.specs.Copper.{Copper}
use Rattle.area_geometry.specs.Apart.{AreAllApart, IsFirstOutside, BeginsOutside, AreCoresApart, AreShapesApart}
use Rattle.board_items.specs.declared.items.Item.{Item}
use Rattle.board_items.specs.declared.items.Padstack.{Padstack}
use Rattle.board_rules.specs.declared.design.Parts.{Parts}
use Rattle.board_rules.specs.Needs.{Keeps, KeepsNeed, need_in}

at_most : (a b : ℤ) → ((a ≤ℤ b → ⊥) → ⊥) → a ≤ℤ b
at_most a b h = by_lt_z b a (λ lt. absurd (h (λ le. clash_ℤ lt le))) (λ le. le)

segments_apart : (s t : Seg) (k : ℕ) → ((IsApart s t k → ⊥) → ⊥) → IsApart s t k
segments_apart s t k h = record { apart = λ q p r some first second. at_most _ _ (λ no. h (λ f. no (f.apart q p r some first second))) }

pieces_apart : (s t : Copper) (k : ℕ) → ((AreAllApart s t k → ⊥) → ⊥) → AreAllApart s t k
pieces_apart s t k h = record { each = λ i a hi. λ j b hj. segments_apart _ _ k (λ no. h (λ f. no (f.each i a hi j b hj))) }

first_outside : (points ring : List Pt) → ((IsFirstOutside points ring → ⊥) → ⊥) → IsFirstOutside points ring
first_outside [] ring h = tt
first_outside (p ∷ rest) ring h = λ inside. h (λ out. out inside)

begins_outside : (s t : Copper) → ((BeginsOutside s t → ⊥) → ⊥) → BeginsOutside s t
begins_outside s t h = record { outside = λ e. first_outside s.points t.points (λ no. h (λ f. no (f.outside e))) }

cores_apart : (s t : Copper) (k : ℕ) → ((AreCoresApart s t k → ⊥) → ⊥) → AreCoresApart s t k
cores_apart s t k h = record {
  pieces = pieces_apart s t k (λ no. h (λ f. no f.pieces));
  first = begins_outside s t (λ no. h (λ f. no f.first));
  other_first = begins_outside t s (λ no. h (λ f. no f.other_first));
}

shapes_apart : (s t : Copper) (c : ℕ) → ((AreShapesApart s t c → ⊥) → ⊥) → AreShapesApart s t c
shapes_apart s t c h = record { apart = λ e. cores_apart s t (s.width + t.width + 2 * c) (λ no. h (λ f. no (f.apart e))) }

keeps_gap : (stacks : List Padstack) (a b : Item) (gap : Option ℕ) → ((Keeps stacks a b gap → ⊥) → ⊥) → Keeps stacks a b gap
keeps_gap stacks a b None h = tt
keeps_gap stacks a b (Some c) h = record { apart = λ i s hi. λ j t hj. shapes_apart _ _ c (λ no. h (λ f. no (f.apart i s hi j t hj))) }

-- two items of which it can't be that they don't keep their need do keep it
pub keeps_need : (p : Parts) (rules : List (Option ℕ)) (a b : Item) → ((KeepsNeed p rules a b → ⊥) → ⊥) → KeepsNeed p rules a b
keeps_need p rules a b h = record { keeps = keeps_gap p.stacks a b (need_in p rules a b) (λ no. h (λ f. no f.keeps)) }
