use Rattle.std.proofs.Common.{◌≡◌, ◌∙◌}
use Rattle.std.specs.Prelude.{IfOk, Result, Ok, Err}
use Rattle.board_rules.specs.declared.design.Parts.{Parts}
use Rattle.board_rules.specs.declared.design.Design.{Design}
use Rattle.board_rules.proofs.Same.{same_design}
use Rattle.board_rules.proofs.design.Design.copy.Goals as goal

same_if : {E : Type 0} (r : Result Design E) (p : Parts) (d : Design) → IfOk r (λ e. e.parts ≡ p) → p ≡ d.parts → IfOk r (λ e. e ≡ d)
same_if (Ok e) p d of same = same_design e d (of ∙ same)
same_if (Err e) p d of same = tt

pub returns : goal.returns
returns c = same_if c.of_parts.result c.in_ok-copied.field-0 c.args.self.now c.of_parts.ensures c.in_ok-copied.ensures
