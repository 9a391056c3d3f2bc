use Rattle.std.proofs.Common.{◌∙◌, ap}
use Rattle.board_rules.specs.Numbers.{texts}
use Rattle.board_rules.proofs.Texts.{text_number, text_put}
use Rattle.board_rules.proofs.names.number_of.Goals as goal

pub returns-clause-number : goal.returns-clause-number
returns-clause-number c = c.in_ok-number.ensures.index ∙ text_number c.args.names.now.keys c.in_ok-owned.owned c.args.name.now c.in_ok-owned.ensures.items

pub returns-clause-names : goal.returns-clause-names
returns-clause-names c = ap texts c.in_ok-number.ensures.keys ∙ text_put c.args.names.now.keys c.in_ok-owned.owned c.args.name.now c.in_ok-owned.ensures.items
