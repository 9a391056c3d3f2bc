use Rattle.std.proofs.Common.{◌∙◌, ap, List, ℕ}
use Rattle.std.specs.Prelude.{Option}
use Rattle.board_rules.specs.Rules.{with_rule}
use Rattle.board_rules.proofs.Ruled.{with_set}
use Rattle.board_rules.proofs.clearances.Rules.set.Goals as goal

pub returns : goal.returns
returns c = c.set.ensures ∙ with_set c.self.inside.clearances c.args.class c.args.clearance ∙ ap (λ (rules : List (Option ℕ)). with_rule c.args.class c.args.clearance rules) c.self.view_is
