use Rattle.board_core.proofs.Growing.{numbered_fit}
use Rattle.board_core.proofs.Cleaned.{numbered_rises}
use Rattle.board_core.proofs.pairs.slow_pair.Goals as goal

pub least_pair-requires-clause-fit : goal.least_pair-requires-clause-fit
least_pair-requires-clause-fit g c = rw (c.as_slice.ensures, c.items.ensures) (numbered_fit c.args.design.now.parts 1 c.args.design.now.parts.items c.args.design.now.sound.items)

pub least_pair-requires-clause-rising : goal.least_pair-requires-clause-rising
least_pair-requires-clause-rising g c = numbered_rises 1 c.as_slice.result.now
