use Rattle.std.proofs.Common.{ℕ, List, subst}
use Rattle.std.specs.Prelude.{◌↔◌}
use Rattle.std.specs.List.{Contains}
use Rattle.check_core.proofs.Meeting.{met_exact}
use Rattle.check_core.proofs.touched.touched.Goals as goal

pub returns-clause-exact : goal.returns-clause-exact
returns-clause-exact g c =
    let same = subst (λ (l : List ℕ). (n : ℕ) → Contains c.rising.result n ↔ Contains l n) c.into_vec.ensures c.rising.ensures.same in
    met_exact c.args.design.now.parts c.args.board.now c.args.deletes.now c.args.adds.now c.new-found.result c.deletes_touched.new.found c.adds_touched.new.found c.rising.result c.new-found.ensures
    c.in_ok-deletes_touched.ensures.found c.in_ok-adds_touched.ensures.found same
