use Rattle.std.proofs.Common.{refl, arith}
use Rattle.std.proofs.lemmas.Option.{slice_get_read}
use Rattle.boundaries.proofs.Kept.{numbered_at}
use Rattle.boundaries.proofs.fences.Fences.number_at.Goals as goal

pub returns-clause-some : goal.returns-clause-some
returns-clause-some c =
    let here = slice_get_read c.as_slice-live.result.now _ c.args.i c.index-live-i.result refl (omega arith) c.index-live-i.is in
    rw (← c.self.view_is) (rw c.as_slice-live.ensures.value at (numbered_at c.as_slice-live.result.now c.args.i c.number.result c.index-live-i.result here c.number.ensures))
