use Rattle.std.proofs.Common.{arith}
use Rattle.board_core.proofs.Near.{clash_within}
use Rattle.board_core.proofs.answer.board_why.Goals as goal

pub returns-clause-cost : goal.returns-clause-cost
returns-clause-cost g c =
    let all = clash_within c.args.design.now.parts c.args.board.now c.args.deletes.now c.args.adds.now c.clash_why.result c.clash_why.ensures.reason in omega (arith, all, c.clash_why.ensures.cost, c.protected_why.ensures.cost)
