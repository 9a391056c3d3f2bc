use Rattle.std.specs.Prelude.{true}
use Rattle.board_items.proofs.Places.{moved_nowhere}
use Rattle.boundaries.proofs.touching.area_view.Goals as goal

pub returns : goal.returns
returns c = λ i. record { layer = 0; area = true; points = moved_nowhere c.args.area.now i; width = 0 }
