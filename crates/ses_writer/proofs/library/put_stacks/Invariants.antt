use Rattle.std.proofs.Common.{◌≡◌, ◌++◌, drop, length}
use Rattle.std.specs.List.{AllByRecursion}
use Rattle.board_items.specs.declared.items.Padstack.{Padstack}
use Rattle.board_rules.specs.Designs.{IsFitShape}
use Rattle.ses_writer.specs.ByNet.{marked_text}
use Rattle.ses_writer.proofs.library.put_stacks.Given as goal

abbrev pub invariant-loop-i : goal.invariant-loop-i
invariant-loop-i l = record {
  left : AllByRecursion (λ (s : Padstack). AllByRecursion (IsFitShape (length l.design.parts.layers)) s.shapes) (drop l.i l.design.parts.stacks);
  text : l.out ++ marked_text l.design.parts (drop l.i l.marks) (drop l.i l.design.parts.stacks) ≡ l.initial.out ++ marked_text l.design.parts l.marks l.design.parts.stacks;
}
