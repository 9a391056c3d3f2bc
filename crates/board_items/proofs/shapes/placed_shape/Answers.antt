use Rattle.std.proofs.Common.{ap, ◌∙◌, sym}
use Rattle.std.specs.Prelude.{Some}
use Rattle.board_items.proofs.Places.{placed_at, within_placed}
use Rattle.board_items.proofs.shapes.placed_shape.Goals as goal

pub get-requires : goal.get-requires
get-requires c = within_placed c.args.at c.args.shapes.now c.args.i c.requires

pub returns : goal.returns
returns c = placed_at c.args.at c.args.shapes.now c.args.i _ c.get.ensures ∙ ap Some (sym c.view.ensures)
