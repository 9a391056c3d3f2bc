-- A shape lies within an area where it begins there and keeps its distance from the area's edges.
use Rattle.std.proofs.Common.{◌≡◌, ℕ, ◌+◌, ◌*◌, List, [], ◌∷◌, Bool, true, false, arith, refl, sym, ap, subst}
use Rattle.std.specs.Prelude.{◌↔◌, IsTrue, All}
use Rattle.seg_geometry.specs.declared.points.Pt.{Pt}
use Rattle.seg_geometry.specs.declared.points.Seg.{Seg}
use Rattle.seg_geometry.specs.Apart.{IsApart}
use Rattle.area_geometry.specs.Copper.{Copper, path, chain_segments, area_edges, pieces_of, area_on}
use Rattle.area_geometry.specs.Apart.{AreAllApart, IsFirstOutside, BeginsOutside, AreCoresApart, ring_points, ring_on, IsFirstInside, LiesWithin}

-- the segments of the closed ring are the edges of the area
ring_segments : (points : List Pt) → chain_segments (ring_points points) ≡ area_edges points
unfolding chain_segments area_edges path
ring_segments [] = refl
ring_segments (p ∷ []) = refl
ring_segments (p ∷ q ∷ rest) = refl

ring_pieces : (layer : ℕ) (points : List Pt) → pieces_of (ring_on layer points) ≡ pieces_of (area_on layer points)
unfolding pieces_of
ring_pieces layer points = ring_segments points

ring_first : (points around : List Pt) → IsFirstOutside (ring_points points) around ≡ IsFirstOutside points around
ring_first [] around = refl
ring_first (p ∷ rest) around = refl

-- the shape begins in the area, the area's first point lies outside the shape, and each piece keeps its distance from each edge
pub record KeepsWithin (s : Copper) (t : Copper) (k : ℕ) : Type 0 where
  pub begins : IsFirstInside s.points t.points
  pub first : BeginsOutside t s
  pub pieces : AreAllApart s t k

all_apart_of : (s t u : Copper) (k j : ℕ) → pieces_of t ≡ pieces_of u → k ≡ j → AreAllApart s t k → AreAllApart s u j
all_apart_of s t u k j e n h = record {
  each = subst (λ (m : ℕ). All (λ a. All (λ b. IsApart a b m) (pieces_of u)) (pieces_of s)) n
      (subst (λ (edges : List Seg). All (λ a. All (λ b. IsApart a b k) edges) (pieces_of s)) e h.each);
}

pub lies_from : (s : Copper) (area : List Pt) → KeepsWithin s (area_on s.layer area) (s.width + 2) → LiesWithin s area
lies_from s area h = record {
  begins = h.begins;
  apart = record {
    apart = λ _. record {
      pieces = all_apart_of s (area_on s.layer area) (ring_on s.layer area) (s.width + 2) (s.width + 0 + 2 * 1) (sym (ring_pieces s.layer area)) (omega arith) h.pieces;
      first = record { outside = λ (e : false ≡ true). absurd (cc) };
      other_first = record { outside = λ e. subst (λ (P : Type 0). P) (sym (ring_first area s.points)) (h.first.outside e) };
    };
  };
}

pub lies_to : (s : Copper) (area : List Pt) → LiesWithin s area → KeepsWithin s (area_on s.layer area) (s.width + 2)
lies_to s area h =
    let apart : AreCoresApart s (ring_on s.layer area) (s.width + 0 + 2 * 1) = h.apart.apart refl in
    record {
      begins = h.begins;
      first = record { outside = λ e. subst (λ (P : Type 0). P) (ring_first area s.points) (apart.other_first.outside e) };
      pieces = all_apart_of s (ring_on s.layer area) (area_on s.layer area) (s.width + 0 + 2 * 1) (s.width + 2) (ring_pieces s.layer area) (omega arith) apart.pieces;
    }

-- what the three tests of `lies_within` say together
pub lies_by : (b : Bool) (s r : Copper) (area : List Pt) (k : ℕ) → r ≡ area_on s.layer area → k ≡ s.width + 2 → IsFirstInside s.points r.points → BeginsOutside r s
    → (IsTrue b ↔ AreAllApart s r k) → IsTrue b ↔ LiesWithin s area
lies_by b s r area k e n begins first pieces = (
  λ kept. lies_from s area (subst (λ (t : Copper). KeepsWithin s t (s.width + 2)) e
      (record { begins = begins; first = first; pieces = all_apart_of s r r k (s.width + 2) refl n (pieces.0 kept) })),
  λ within. pieces.1 (all_apart_of s (area_on s.layer area) r (s.width + 2) k (sym (ap (λ (t : Copper). pieces_of t) e)) (sym n) (lies_to s area within).pieces),
)
