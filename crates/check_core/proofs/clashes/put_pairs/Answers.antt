use Rattle.std.proofs.Common.{◌+◌, ◌++◌, ◌∙◌, List, ℕ, ap, sym, drop}
use Rattle.std.proofs.lemmas.List.{drop_all, append-nil}
use Rattle.number_slots.proofs.ByNumber.{left_at}
use Rattle.check_core.specs.Tries.{paired}
use Rattle.check_core.proofs.Clashing.{put_next}
use Rattle.check_core.proofs.clashes.put_pairs.Goals as goal

pub loop-id-preserved : goal.loop-id-preserved
loop-id-preserved c =
    let ids = c.args.ids.now in
    let i = c.loop-id.id-index in
    let cut = left_at ids i 0 c.loop-id-test.true in
    put_next c.loop-id.pairs c.args.a _ (drop (i + 1) ids) _ c.in_ok-push.ensures
    ∙ ap (λ (l : List ℕ). c.loop-id.pairs ++ paired c.args.a l) (sym cut)
    ∙ c.loop-id.invariant

pub returns : goal.returns
returns c = λ ok.
    sym (ap (λ (l : List ℕ). c.loop-id.pairs ++ paired c.args.a l) (drop_all c.loop-id.id-index c.args.ids.now c.loop-id-test.false) ∙ append-nil c.loop-id.pairs)
    ∙ c.loop-id.invariant
