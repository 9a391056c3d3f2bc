use Rattle.std.proofs.Common.{◌≡◌, ◌≤◌, length, true, false}
use Rattle.number_slots.proofs.ByNumber.{by_lt}
use Rattle.board_core.proofs.Ruled.{unruled}
use Rattle.board_core.proofs.clearances.change.Goals as goal

pub returns-then-not-has : goal.returns-then-not-has
returns-then-not-has c =
    let past : length c.args.rules.now ≤ c.args.class = by_lt c.args.class (length c.args.rules.now) (length c.args.rules.now ≤ c.args.class) (λ lt. let wrong : false ≡ true = c.if-not-has.ensures.1 lt in absurd cc) (λ le. le) in
    unruled c.args.class c.args.clearance c.args.rules.now past
