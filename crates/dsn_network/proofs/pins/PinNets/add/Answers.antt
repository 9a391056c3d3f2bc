use Rattle.std.proofs.Common.{◌∙◌}
use Rattle.dsn_network.proofs.PinKeys.{pin_added_behind}
use Rattle.dsn_network.proofs.pins.PinNets.add.Goals as goal

pub returns : goal.returns
returns c = c.in_ok-insert.ensures.entries ∙ pin_added_behind c.self.inside.nets.entries c.args.self.now (c.args.component, c.args.pin) c.args.net c.self.view_is c.requires
