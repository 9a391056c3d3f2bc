use Rattle.board_rules.proofs.Gaps.{untyped_fit}
use Rattle.board_rules.proofs.clearances.Rules.of_parts.Goals as goal

pub invariant_of-result : goal.invariant_of-result
invariant_of-result c = rw (c.in_ok-untyped_in.ensures, c.as_slice.ensures) (untyped_fit c.args.parts.now c.requires)
