use Rattle.std.proofs.Common.{◌∙◌, sym, ap, drop, drop_of_length-le}
use Rattle.dsn_turns.specs.Turning.{shape_moved}
use Rattle.dsn_turns.proofs.ShapeClauses.{one_more_at, one_none_at, all_done}
use Rattle.dsn_turns.proofs.moves.led_shapes.Goals as goal

pub returns-in_default : goal.returns-in_default
returns-in_default c =
    let here = ap (shape_moved c.args.steps.now c.args.over) (sym c.shape-item.is) in
    sym (c.loop-shape.invariant ∙ one_none_at (shape_moved c.args.steps.now c.args.over) c.args.shapes.now c.loop-shape.shape-index c.shape-item.result c.loop-shape.places c.loop-shape-test.true (here ∙ sym c.in_ok-place.ensures ∙ c.in_default.is))

pub loop-shape-preserved : goal.loop-shape-preserved
loop-shape-preserved c =
    let grown = c.in_ok-push.ensures in
    let here = ap (shape_moved c.args.steps.now c.args.over) (sym c.shape-item.is) in
    rw grown (c.loop-shape.invariant ∙ one_more_at (shape_moved c.args.steps.now c.args.over) c.args.shapes.now c.loop-shape.shape-index c.shape-item.result c.in-Some.place c.loop-shape.places c.loop-shape-test.true (here ∙ sym c.in_ok-place.ensures ∙ c.in-Some.is))

pub returns : goal.returns
returns c = sym (c.loop-shape.invariant ∙ all_done (shape_moved c.args.steps.now c.args.over) c.loop-shape.places (drop c.loop-shape.shape-index c.args.shapes.now) (drop_of_length-le c.args.shapes.now c.loop-shape-test.false))
