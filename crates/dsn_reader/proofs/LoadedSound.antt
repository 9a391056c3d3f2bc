-- The pads and keepouts of a design are items within the limits.
use Rattle.std.proofs.Common.{◌≡◌, ℕ, ◌^◌, ◌<◌, Bool, true, false, cond, List, [], ◌∷◌, ◌++◌, length, map, Option, Some, None, refl, sym, subst}
use Rattle.std.specs.List.{AllByRecursion}
use Rattle.std.proofs.lemmas.List.{length-map}
use Rattle.std.proofs.lemmas.List.Elements.{All-from_recursion}
use Rattle.seg_geometry.specs.declared.points.Pt.{Pt}
use Rattle.seg_geometry.specs.Points.{IsInRange}
use Rattle.area_geometry.specs.declared.shapes.Shape.{Shape}
use Rattle.area_geometry.specs.Copper.{IsWithinLimits, core_points, placed}
use Rattle.board_items.specs.declared.items.Item.TheVariants as items
use Rattle.board_items.specs.declared.items.KeepKind.{KeepKind}
use Rattle.board_items.specs.Shapes.{origin}
use Rattle.board_items.proofs.Places.{moved_nowhere}
use Rattle.board_rules.specs.declared.design.Parts.{Parts}
use Rattle.board_rules.specs.Designs.{IsFitItem}
use Rattle.board_rules.proofs.Cores.{placed_cores}
use Rattle.dsn_shapes.specs.Limits.{AreFitDrawn}
use Rattle.dsn_network.specs.References.{same_pin, net_at}

-- ---- shapes

on_layers : (layers : ℕ) (ss : List Shape) → AreFitDrawn layers ss → AllByRecursion (λ (s : Shape). s.layer < layers) ss
on_layers layers [] h = tt
on_layers layers (s ∷ ss) h = (h.0.layer, on_layers layers ss h.1)

within_limits : (layers : ℕ) (ss : List Shape) → AreFitDrawn layers ss → AllByRecursion IsWithinLimits (map (placed origin) ss)
within_limits layers [] h = tt
within_limits layers (s ∷ ss) h = (
  record {
    points = All-from_recursion IsInRange (placed origin s).points (subst (λ (ps : List Pt). AllByRecursion IsInRange ps) (sym (moved_nowhere (core_points s.core))) h.0.points);
    width = h.0.width;
  },
  within_limits layers ss h.1,
)

count_is : (ss : List Shape) → length ss < 2 ^ 32 → length (map (placed origin) ss) < 2 ^ 32
count_is ss few = rw (length-map ss (placed origin)) few

-- ---- items

pub keep_fits : (p : Parts) (k : KeepKind) (ss : List Shape) → AreFitDrawn (length p.layers) ss → length ss < 2 ^ 32 → IsFitItem p (items.Keep k ss)
keep_fits p k ss fit few = record {
  there = on_layers (length p.layers) ss fit;
  copper = All-from_recursion IsWithinLimits (map (placed origin) ss) (within_limits (length p.layers) ss fit);
  cores = placed_cores origin (length p.layers) ss fit;
  few = count_is ss few;
}

pub pad_fits : (p : Parts) (net : Option ℕ) (ss : List Shape) → ((n : ℕ) → net ≡ Some n → n < length p.nets) → AreFitDrawn (length p.layers) ss → length ss < 2 ^ 32 → IsFitItem p (items.Pad net ss)
pad_fits p None ss below fit few = record {
  there = on_layers (length p.layers) ss fit;
  copper = All-from_recursion IsWithinLimits (map (placed origin) ss) (within_limits (length p.layers) ss fit);
  cores = placed_cores origin (length p.layers) ss fit;
  few = count_is ss few;
}
pad_fits p (Some n) ss below fit few = record {
  there = (below n refl, on_layers (length p.layers) ss fit);
  copper = All-from_recursion IsWithinLimits (map (placed origin) ss) (within_limits (length p.layers) ss fit);
  cores = placed_cores origin (length p.layers) ss fit;
  few = count_is ss few;
}

-- the net of a pin is one of so many
pub net_below : (count : ℕ) (pins : List ((ℕ × ℕ) × ℕ)) (q : ℕ × ℕ) (n : ℕ) → AllByRecursion (λ (p : (ℕ × ℕ) × ℕ). p.1 < count) pins → net_at pins q ≡ Some n → n < count
net_below count [] q n h e = absurd cc
net_below count (p ∷ pins) q n h e = by (λ k. net_below count pins q n h.1 k) (same_pin q p.0) e
  where
    by : (net_at pins q ≡ Some n → n < count) → (b : Bool) → cond b (Some p.1) (net_at pins q) ≡ Some n → n < count
    by others true is = let same : p.1 ≡ n = cc in subst (λ (m : ℕ). m < count) same h.0
    by others false is = others is

pub all_joined : {X : Type 0} (P : X → Type 0) (xs ys : List X) → AllByRecursion P xs → AllByRecursion P ys → AllByRecursion P (xs ++ ys)
all_joined P [] ys h k = k
all_joined P (x ∷ xs) ys h k = (h.0, all_joined P xs ys h.1 k)
