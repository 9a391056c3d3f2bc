use Rattle.number_slots.specs.Slots.{there}
use Rattle.number_slots.proofs.ByNumber.{there_rises}
use Rattle.number_slots.proofs.Walks.{walk_pass, walk_find}
use Rattle.board_core.proofs.live_items.kept_at.Goals as goal

pub returns-in_err-item-clause-none : goal.returns-in_err-item-clause-none
returns-in_err-item-clause-none c = rw c.from_residual.ensures (walk_pass c.args.numbers.now c.args.i (there 1 c.args.items.now) c.requires (λ t. c.in_err-item.ensures.none t.0 t.1))

pub returns-clause-some : goal.returns-clause-some
returns-clause-some c = walk_find c.args.numbers.now c.args.i (there 1 c.args.items.now) c.in_ok-item.item.now c.requires (there_rises 1 c.args.items.now) c.in_ok-item.ensures.some
