use Rattle.std.proofs.Common.{◌∙◌, sym, drop, drop_of_length-le}
use Rattle.std.specs.Prelude.{pos}
use Rattle.dsn_turns.specs.Turning.{through}
use Rattle.dsn_turns.proofs.ShapeClauses.{one_more_at, one_none_at, all_done}
use Rattle.dsn_turns.proofs.moves.led_points.Goals as goal

pub returns-in_default : goal.returns-in_default
returns-in_default c = sym (c.loop-p.invariant ∙ one_none_at (through c.args.steps.now) c.args.points.now c.loop-p.p-index (record { x = pos 0; y = pos 0 }) c.loop-p.places c.loop-p-test.true (sym c.led.ensures ∙ c.in_default.is))

pub loop-p-preserved : goal.loop-p-preserved
loop-p-preserved c =
    let grown = c.in_ok-push.ensures in
    rw grown (c.loop-p.invariant ∙ one_more_at (through c.args.steps.now) c.args.points.now c.loop-p.p-index (record { x = pos 0; y = pos 0 }) c.in-Some.place c.loop-p.places c.loop-p-test.true (sym c.in-Some.ensures))

pub returns : goal.returns
returns c = sym (c.loop-p.invariant ∙ all_done (through c.args.steps.now) c.loop-p.places (drop c.loop-p.p-index c.args.points.now) (drop_of_length-le c.args.points.now c.loop-p-test.false))
