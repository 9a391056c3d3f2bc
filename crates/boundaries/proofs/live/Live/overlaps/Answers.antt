use Rattle.std.proofs.Common.{refl}
use Rattle.boundaries.proofs.Nearness.{overlap_within}
use Rattle.boundaries.proofs.live.Live.overlaps.Goals as goal

pub returns-then-share_layer-clause-cost : goal.returns-then-share_layer-clause-cost
returns-then-share_layer-clause-cost g c =
    let common = rw c.as_slice.ensures at (c.if-share_layer.ensures.0 refl) in
    let spent = rw c.as_slice-then-share_layer.ensures at c.area_near.ensures.cost in
    rw (← c.self.view_is) (overlap_within _ _ _ _ _ common spent)

pub returns-else-share_layer-clause-overlaps : goal.returns-else-share_layer-clause-overlaps
returns-else-share_layer-clause-overlaps g c =
    let told = rw c.as_slice.ensures at c.share_layer.ensures in
    rw (← c.self.view_is) (λ t. absurd (let yes = rw c.if-share_layer.false at t in cc), λ o. told.1 o.common)
