use Rattle.board_core.proofs.Growing.{edit_same}
use Rattle.board_core.proofs.board.Board.edit.Goals as goal

pub returns-clause-ok : goal.returns-clause-ok
returns-clause-ok c =
    let b = c.self.inside in
    rw (← c.self.view_is) (edit_same b.items c.replace.new.self c.in_ok-made.made.items b.held.pairs c.release_all.new.held.pairs b.fences.fences b.fences.last b.rules b.count c.args.deletes.now c.args.adds.now c.in_ok-made.ensures c.in_ok-replace.ensures.left c.in_ok-replace.ensures.length c.release_all.ensures.pairs)
