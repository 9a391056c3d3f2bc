-- The items of the tests are fit.
use Rattle.std.proofs.Common.{◌≡◌, ℕ, ◌+◌, ◌<◌, ◌≤◌, Bool, List, [], ◌∷◌, length, map, All, pos, negsuc, refl, arith, rules}
use Rattle.std.specs.List.{AllByRecursion}
use Rattle.std.proofs.lemmas.List.Elements.{All-from_recursion, All-nil, All-cons}
use Rattle.seg_geometry.specs.Points.{IsInRange}
use Rattle.seg_geometry.specs.declared.points.Pt.{Pt}
use Rattle.area_geometry.specs.Copper.{Copper, placed, IsWithinLimits}
use Rattle.board_items.specs.declared.items.Item.{Item}
use Rattle.board_items.specs.declared.items.Item.TheVariants as items
use Rattle.board_items.specs.Shapes.{chain_on}
use Rattle.board_rules.specs.declared.design.Parts.{Parts}
use Rattle.board_rules.specs.Designs.{IsFitItem, HasEnough}
use Rattle.ses_writer.specs.Samples.{IsNear, IsSample, sample_pt, round_shapes, odd_shapes}

all_limits : (cs : List Copper) → AllByRecursion IsNear cs → All IsWithinLimits cs
all_limits [] near = All-nil IsWithinLimits
all_limits (c ∷ cs) near = All-cons IsWithinLimits c cs (record { points = All-from_recursion IsInRange c.points near.0.points; width = near.0.width }) (all_limits cs near.1)

all_cores : (cs : List Copper) → AllByRecursion IsNear cs → All HasEnough cs
all_cores [] near = All-nil HasEnough
all_cores (c ∷ cs) near = All-cons HasEnough c cs near.0.enough (all_cores cs near.1)

pub fit_wire : (p : Parts) (net layer : ℕ) (points : List Pt) (fix : Bool) → IsSample p → net < 3 → layer < 2 → AllByRecursion IsInRange points → 0 < length points → IsFitItem p (items.Wire net layer 250000 points fix)
fit_wire p net layer points fix sample n l near some = record {
  there = (omega (arith, n, sample.nets), omega (arith, l, sample.layers));
  copper = all_limits (chain_on layer 250000 points ∷ []) (record { points = near; enough = omega (arith, some); width = omega arith }, tt);
  cores = all_cores (chain_on layer 250000 points ∷ []) (record { points = near; enough = omega (arith, some); width = omega arith }, tt);
  few = omega arith;
}

abbrev round_place : Pt
round_place = record { x = pos 4000000; y = negsuc 7999999 }

pub fit_round : (p : Parts) (net : ℕ) (fix : Bool) → IsSample p → net < 3 → IsFitItem p (items.Via net 1 round_place fix)
fit_round p net fix sample n = record {
  there = (omega (arith, n, sample.nets), omega (arith, sample.stacks));
  copper = rw sample.round (all_limits (map (placed round_place) round_shapes) (search rules));
  cores = rw sample.round (all_cores (map (placed round_place) round_shapes) (search rules));
  few = rw sample.round (omega arith);
}

pub fit_odd : (p : Parts) (net : ℕ) (fix : Bool) → IsSample p → net < 3 → IsFitItem p (items.Via net 2 (sample_pt 1 2) fix)
fit_odd p net fix sample n = record {
  there = (omega (arith, n, sample.nets), omega (arith, sample.stacks));
  copper = rw sample.odd (all_limits (map (placed (sample_pt 1 2)) odd_shapes) (search rules));
  cores = rw sample.odd (all_cores (map (placed (sample_pt 1 2)) odd_shapes) (search rules));
  few = rw sample.odd (omega arith);
}
