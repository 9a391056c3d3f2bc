use Rattle.check_core.proofs.Making.{entered_one}
use Rattle.check_core.proofs.Leaving.{within_one}
use Rattle.check_core.proofs.following.enter_add.Goals as goal

pub returns-clause-made : goal.returns-clause-made
returns-clause-made g c = entered_one c.args.design.now.parts.stacks c.args.id c.args.add.now _ c.enter.result _ _ c.requires.layer c.item_made.ensures c.enter.ensures.entered

pub returns-clause-own : goal.returns-clause-own
returns-clause-own g c = within_one c.args.id _ _ c.enter.ensures.own
