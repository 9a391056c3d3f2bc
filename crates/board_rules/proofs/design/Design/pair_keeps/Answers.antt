use Rattle.std.proofs.Common.{sym}
use Rattle.board_items.specs.Adds.{item_seen}
use Rattle.board_rules.specs.Rules.{under}
use Rattle.board_rules.proofs.Gaps.{fit_need}
use Rattle.board_rules.proofs.design.Design.pair_keeps.Goals as goal

pub items_keep-requires-clause-gap_fits : goal.items_keep-requires-clause-gap_fits
items_keep-requires-clause-gap_fits g c = fit_need c.args.self.now.parts c.args.self.now.sound (under c.args.rules) c.keep_limits.ensures (item_seen c.args.a) (item_seen c.args.b) c.in-Some.gap (sym c.in-Some.ensures)
