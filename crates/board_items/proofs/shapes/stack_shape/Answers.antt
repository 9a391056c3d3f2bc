use Rattle.board_items.proofs.Places.{stack_is_there}
use Rattle.board_items.proofs.shapes.stack_shape.Goals as goal

pub get-stack-requires : goal.get-stack-requires
get-stack-requires c = stack_is_there c.args.at c.args.stacks.now c.args.padstack c.args.i c.requires
