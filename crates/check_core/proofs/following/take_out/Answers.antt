use Rattle.std.proofs.Common.{◌≡◌, ◌+◌, ◌∙◌, ℕ, ap, arith}
use Rattle.seg_geometry.specs.Near as index
use Rattle.check_core.specs.Changes.{outside}
use Rattle.check_core.proofs.Taking.{outside_none, outside_more}
use Rattle.check_core.proofs.following.take_out.Goals as goal

pub loop-i-preserved : goal.loop-i-preserved
loop-i-preserved g c =
    let next : c.args.first + c.loop-i.i + 1 ≡ c.args.first + (c.loop-i.i + 1) = omega arith in
    c.remove.ensures
    ∙ ap (index.without (c.args.first + c.loop-i.i)) c.loop-i.invariant
    ∙ outside_more c.args.first (c.args.first + c.loop-i.i) (g.N.Near.filed c.args.near.now) (omega arith)
    ∙ ap (λ (n : ℕ). outside c.args.first n (g.N.Near.filed c.args.near.now)) next

pub loop-i-init : goal.loop-i-init
loop-i-init g c = outside_none c.args.first (c.args.first + 0) (g.N.Near.filed c.args.near.now) (omega arith)
