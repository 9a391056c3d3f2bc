use Rattle.dsn_turns.proofs.ShapeClauses.{are_found, none_found}
use Rattle.dsn_turns.proofs.moves.moved_shapes.Goals as goal

pub returns-clause-found : goal.returns-clause-found
returns-clause-found c = are_found c.led_shapes.result c.args.steps.now c.args.over c.args.shapes.now c.led_shapes.ensures

pub returns-clause-none : goal.returns-clause-none
returns-clause-none c = none_found c.led_shapes.result c.args.steps.now c.args.over c.args.shapes.now c.led_shapes.ensures
