use Rattle.std.proofs.Common.{◌≡◌, ◌∷◌, ◌+◌, ◌∙◌, List, ℕ, ap, sym, drop, get_or}
use Rattle.std.proofs.lemmas.List.{drop_all}
use Rattle.number_slots.proofs.ByNumber.{left_at}
use Rattle.check_core.specs.Changes.{left_below}
use Rattle.check_core.proofs.Taking.{left_next, left_none}
use Rattle.check_core.proofs.following.leave.Goals as goal

pub loop-id-preserved : goal.loop-id-preserved
loop-id-preserved g c =
    let ids = c.args.ids.now in
    let i = c.loop-id.id-index in
    let id = get_or ids i 0 in
    let cut : drop i ids ≡ id ∷ drop (i + 1) ids = left_at ids i 0 c.loop-id-test.true in
    ap (left_below (drop (i + 1) ids) c.args.bound) c.leave_one.ensures
    ∙ left_next id (drop (i + 1) ids) c.args.bound (g.N.Near.filed c.loop-id.near)
    ∙ ap (λ (l : List ℕ). left_below l c.args.bound (g.N.Near.filed c.loop-id.near)) (sym cut)
    ∙ c.loop-id.invariant

pub returns : goal.returns
returns g c =
    sym (ap (λ (l : List ℕ). left_below l c.args.bound (g.N.Near.filed c.loop-id.near)) (drop_all c.loop-id.id-index c.args.ids.now c.loop-id-test.false) ∙ left_none c.args.bound (g.N.Near.filed c.loop-id.near))
    ∙ c.loop-id.invariant
