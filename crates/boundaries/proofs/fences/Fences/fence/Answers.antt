use Rattle.std.proofs.Common.{◌+◌, refl}
use Rattle.boundaries.proofs.Kept.{live_more}
use Rattle.boundaries.proofs.fences.Fences.fence.Goals as goal

pub invariant_of-self-2 : goal.invariant_of-self-2
invariant_of-self-2 c =
    let xs = c.self.inside.live.items in
    let low = rw (← c.self.view_is) at c.requires.few in
    let more = live_more xs c.self.inside.last (c.self.inside.last + 1) _ refl low c.self.invariant.0 in
    (rw (c.push_reserved.ensures.items, c.new.ensures) more, rw c.take.ensures.after tt)
