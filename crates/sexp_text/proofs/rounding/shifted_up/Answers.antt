use Rattle.std.proofs.Common.{◌-◌, ◌∙◌, arith}
use Rattle.sexp_text.proofs.Roundings.{grows, one_place}
use Rattle.sexp_text.proofs.rounding.shifted_up.Goals as goal

pub returns-then-shifted-gt-LIMIT_NM-clause-above :
    goal.returns-then-shifted-gt-LIMIT_NM-clause-above
returns-then-shifted-gt-LIMIT_NM-clause-above c = omega (arith, grows c.loop-place.shifted (c.args.places - c.loop-place._place), c.loop-place.invariant)

pub loop-place-preserved : goal.loop-place-preserved
loop-place-preserved c = one_place c.loop-place.shifted c.loop-place._place c.args.places (omega arith) ∙ c.loop-place.invariant
