use Rattle.std.proofs.Common.{List, map, sym, ap, ◌∙◌}
use Rattle.std.specs.Prelude.{All}
use Rattle.seg_geometry.specs.Points.{IsInRange}
use Rattle.area_geometry.specs.Copper.{Copper, placed}
use Rattle.area_geometry.specs.declared.shapes.Shape.{Shape}
use Rattle.board_items.specs.Shapes.{shapes_of}
use Rattle.board_rules.proofs.Walked.{same_iff}
use Rattle.board_rules.proofs.design.Design.via_in_range.Goals as goal

pub returns : goal.returns
returns c = same_iff (λ (shapes : List Shape). All (λ (s : Copper). All IsInRange s.points) (map (placed c.args.at) shapes)) _ _ c.shapes_in_range.result (c.as_slice.ensures ∙ sym (ap shapes_of c.get-stack.ensures)) c.shapes_in_range.ensures
