use Rattle.std.proofs.Common.{◌≡◌, ◌++◌, drop, length}
use Rattle.std.specs.List.{flat_map, AllByRecursion}
use Rattle.board_rules.specs.Designs.{IsFitShape}
use Rattle.ses_writer.specs.Library.{shape_text}
use Rattle.ses_writer.proofs.library.put_shapes.Given as goal

abbrev pub invariant-loop-shape : goal.invariant-loop-shape
invariant-loop-shape l = record {
  left : AllByRecursion (IsFitShape (length l.design.parts.layers)) (drop l.shape-index l.shapes);
  text : l.out ++ flat_map (shape_text l.design.parts) (drop l.shape-index l.shapes) ≡ l.initial.out ++ flat_map (shape_text l.design.parts) l.shapes;
}
