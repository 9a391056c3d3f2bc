use Rattle.board_rules.proofs.Ruled.{change_fit}
use Rattle.board_rules.proofs.clearances.RulesView.keep_limits.Goals as goal

pub returns : goal.returns
returns c = change_fit c.requires.0 c.args.self.change c.args.self.rules.now c.requires.1.change c.len-count.ensures.limits
