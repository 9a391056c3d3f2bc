use Rattle.std.proofs.Common.{◌+◌, List, length, ap, sym, subst}
use Rattle.check_core.specs.Checking.{Checking, IsChecking}
use Rattle.board_items.specs.declared.requests.Add.{Add}
use Rattle.check_core.proofs.Follow.{checks_after, checks_before}
use Rattle.check_core.proofs.checker.Checker.take.Goals as goal

pub returns-in-Ok-clause-checking : goal.returns-in-Ok-clause-checking
returns-in-Ok-clause-checking g c =
    checks_after c.args.design.now.parts (record { board = c.self.inside.board; filed = g.N.Near.filed c.self.inside.near }) c.put.new.board c.next_id-next.result c.deletes_of.result.now (g.N.Near.filed c.put.new.near) (g.N.Near.filed c.leave.new.near)
    c.args.entry.now.client c.args.entry.now.act (subst (λ (x : Checking). IsChecking c.args.design.now.parts x) (sym c.self.view_is) c.requires.checking) c.next_id-next.ensures.within c.next_id-next.ensures.next c.deletes_of.ensures c.requires.fit c.in-Ok.ensures.taken c.in-Ok.ensures.made c.leave.ensures

pub returns-in-Err-clause-checking : goal.returns-in-Err-clause-checking
returns-in-Err-clause-checking g c =
    checks_before c.args.design.now.parts (record { board = c.self.inside.board; filed = g.N.Near.filed c.self.inside.near }) c.put.new.board c.next_id-next.result _ _ (g.N.Near.filed c.put.new.near) (g.N.Near.filed c.take_out.new.near)
    (subst (λ (x : Checking). IsChecking c.args.design.now.parts x) (sym c.self.view_is) c.requires.checking) c.next_id-next.ensures.within c.in-Err.ensures.err c.in-Err.ensures.own (ap (λ (adds : List Add). c.next_id-next.result + length adds) c.adds_of.ensures) c.take_out.ensures
