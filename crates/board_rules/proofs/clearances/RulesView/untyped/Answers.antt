use Rattle.std.proofs.Common.{◌∙◌, sym}
use Rattle.board_rules.proofs.Ruled.{told, told_past}
use Rattle.board_rules.proofs.clearances.RulesView.untyped.Goals as goal

pub returns-in-None : goal.returns-in-None
returns-in-None c = sym (told_past c.args.self.change c.args.self.rules.now c.args.class (sym c.in-None.ensures))

pub returns-in-Some : goal.returns-in-Some
returns-in-Some c = c.or_else.ensures ∙ told c.args.self.change c.args.self.rules.now c.args.class c.changed_to.result c.in-Some.own (sym c.in-Some.ensures) c.changed_to.ensures.some c.changed_to.ensures.none
