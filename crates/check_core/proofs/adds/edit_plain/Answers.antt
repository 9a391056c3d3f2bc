use Rattle.check_core.proofs.Adding.{none_fits}
use Rattle.check_core.proofs.adds.edit_plain.Goals as goal

pub own_why-requires-clause-fits : goal.own_why-requires-clause-fits
own_why-requires-clause-fits g c = none_fits c.args.design.now.parts c.args.adds.now c.args.why c.args.design.now.sound c.requires.formed.formed c.requires.why cc
