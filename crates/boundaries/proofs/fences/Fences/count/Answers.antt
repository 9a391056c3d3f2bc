use Rattle.std.proofs.Common.{length, ap, arith}
use Rattle.boundaries.proofs.Kept.{few_live}
use Rattle.boundaries.proofs.fences.Fences.count.Goals as goal

pub overflow_cast-result : goal.overflow_cast-result
overflow_cast-result c =
    let few = few_live c.self.inside.live.items c.self.inside.last c.self.invariant.0 in
    let same = ap length c.as_slice.ensures.value in omega (arith, few, same, c.self.invariant.0.few)
