use Rattle.dsn_turns.proofs.Roots.{half_square, size_is}
use Rattle.dsn_turns.proofs.turns.root_of_size.Goals as goal

pub returns-clause-value : goal.returns-clause-value
returns-clause-value c =
    let low = rw (half_square c.args.size) at c.isqrt.ensures.square_le in
    let high = rw (half_square c.args.size) at c.isqrt.ensures.next_square_gt in
    size_is c.args.size c.isqrt.result low high
