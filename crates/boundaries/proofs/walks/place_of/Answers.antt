use Rattle.std.proofs.Common.{◌≡◌, ℕ, refl, ◌∙◌}
use Rattle.std.proofs.lemmas.Option.{slice_get_read}
use Rattle.boundaries.specs.Boundaries.{Boundary}
use Rattle.boundaries.proofs.Walked.{none_on}
use Rattle.boundaries.proofs.walks.place_of.Goals as goal

pub loop-i-preserved : goal.loop-i-preserved
loop-i-preserved c =
    let here = slice_get_read c.args.live.now _ c.loop-i.i c.index-live-i.result refl c.loop-i-test.true c.index-live-i.is in
    none_on (λ (n : ℕ) (b : Boundary). n ≡ c.args.number) c.args.live.now c.loop-i.i c.index-live-i.result here c.loop-i.invariant (λ e. c.if-number.false (c.number.ensures ∙ e))
