use Rattle.std.proofs.Common.{sym, subst}
use Rattle.near_slots.specs.Tables.{Table, Keeps}
use Rattle.near_slots.proofs.TableLemmas.{Keeps-then}
use Rattle.near_slots.proofs.buckets.Buckets.put.Goals as goal

pub returns-in_err-add-clause-kept : goal.returns-in_err-add-clause-kept
returns-in_err-add-clause-kept c = Keeps-then _ _ _ c.in_ok-make_room.ensures c.in_err-add.ensures.kept

pub returns-clause-kept : goal.returns-clause-kept
returns-clause-kept c = Keeps-then _ _ _ c.in_ok-make_room.ensures
    (subst (λ (t : Table). Keeps c.make_room.new.self t) (sym c.self.view_is) c.in_ok-add.ensures.kept)
