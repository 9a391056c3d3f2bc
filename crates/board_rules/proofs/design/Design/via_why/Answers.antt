use Rattle.std.proofs.Common.{◌<◌, length, arith, refl}
use Rattle.board_rules.proofs.FitRequests.{via_fits}
use Rattle.board_rules.proofs.design.Design.via_why.Goals as goal

pub lies_inside-requires-clause-copper_in : goal.lies_inside-requires-clause-copper_in
lies_inside-requires-clause-copper_in g c =
    let net_there : c.args.net < length c.args.self.now.parts.nets = omega arith in
    let stack_there : c.args.padstack < length c.args.self.now.parts.stacks = omega arith in
    (via_fits c.args.self.now.parts c.args.net c.args.padstack c.args.at c.args.self.now.sound net_there stack_there (c.if-not-via_in_range.ensures.0 refl)).copper

pub lies_inside-requires-clause-few : goal.lies_inside-requires-clause-few
lies_inside-requires-clause-few g c =
    let net_there : c.args.net < length c.args.self.now.parts.nets = omega arith in
    let stack_there : c.args.padstack < length c.args.self.now.parts.stacks = omega arith in
    (via_fits c.args.self.now.parts c.args.net c.args.padstack c.args.at c.args.self.now.sound net_there stack_there (c.if-not-via_in_range.ensures.0 refl)).few
