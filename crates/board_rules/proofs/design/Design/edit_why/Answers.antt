use Rattle.std.specs.List.{AllByRecursion}
use Rattle.board_rules.specs.FitAdds.{IsFitAdd}
use Rattle.board_rules.proofs.FitRequests.{adds_fit, kept_if_none}
use Rattle.board_rules.proofs.design.Design.edit_why.Goals as goal

pub own_why-requires-clause-fits : goal.own_why-requires-clause-fits
own_why-requires-clause-fits g c = adds_fit c.args.self.now.parts 1 c.args.adds.now c.args.self.now.sound c.requires.formed.formed c.in_default.ensures.reason

pub returns-clause-fits : goal.returns-clause-fits
returns-clause-fits g c =
    kept_if_none c.own_why.result (AllByRecursion (IsFitAdd c.args.self.now.parts) c.args.adds.now)
    (adds_fit c.args.self.now.parts 1 c.args.adds.now c.args.self.now.sound c.requires.formed.formed c.in_default.ensures.reason)
