-- Two shapes are apart both ways round, as two segments are.
use Rattle.std.proofs.Common.{◌≡◌, ℕ, ◌+◌, ◌*◌, arith, sym, subst}
use Rattle.seg_geometry.proofs.Laws.{IsApart-turned}
use Rattle.area_geometry.specs.Copper.{Copper}
use Rattle.area_geometry.specs.Apart.{AreAllApart, AreCoresApart, AreShapesApart}

pieces-turned : (s t : Copper) (k : ℕ) → AreAllApart s t k → AreAllApart t s k
pieces-turned s t k h = record {
  each = λ j b hj. λ i a hi. IsApart-turned _ _ k (h.each i a hi j b hj);
}

pub cores-turned : (s t : Copper) (k : ℕ) → AreCoresApart s t k → AreCoresApart t s k
cores-turned s t k h = record { pieces = pieces-turned s t k h.pieces; first = h.other_first; other_first = h.first }

pub shapes-turned : (s t : Copper) (c : ℕ) → AreShapesApart s t c → AreShapesApart t s c
shapes-turned s t c h = record {
  apart = λ e.
      let k : s.width + t.width + 2 * c ≡ t.width + s.width + 2 * c = omega arith in
      subst (λ (m : ℕ). AreCoresApart t s m) k (cores-turned s t (s.width + t.width + 2 * c) (h.apart (sym e)));
}
