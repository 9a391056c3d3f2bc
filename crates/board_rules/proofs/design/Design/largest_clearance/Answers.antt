use Rattle.std.proofs.Common.{arith}
use Rattle.board_rules.specs.Rules.{under}
use Rattle.board_rules.proofs.Gaps.{fit_largest}
use Rattle.board_rules.proofs.design.Design.largest_clearance.Goals as goal

pub returns-clause-limit : goal.returns-clause-limit
returns-clause-limit c =
    let within = fit_largest c.args.self.now.parts c.args.self.now.sound (under c.args.rules) c.keep_limits.ensures in
    let stated = c.args.self.now.largest_is in
    let rule = c.largest.ensures in
    let most = c.max.ensures in
    omega (arith, within, stated, rule, most)
