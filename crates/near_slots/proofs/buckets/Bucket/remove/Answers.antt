use Rattle.std.proofs.Common.{◌≡◌, ◌<◌, List, length, get_or, sym, subst}
use Rattle.near_slots.specs.declared.buckets.Spot.{Spot}
use Rattle.near_slots.proofs.TableLemmas.{Contains-swap_removed}
use Rattle.near_slots.proofs.buckets.Bucket.remove.Goals as goal

pub returns : goal.returns
returns c =
    let spots = c.self.inside.spots.items in
    let i = c.in-Some.i in
    let gone = c.swap_remove.result in
    let within = subst (λ (xs : List Spot). i < length xs) (sym c.self.view_is) c.in-Some.ensures.within in
    let of = subst (λ (xs : List Spot). (get_or xs i gone).slot ≡ c.args.slot) (sym c.self.view_is) (c.in-Some.ensures.of gone) in
    rw (← c.self.view_is, c.swap_remove.ensures.items) (Contains-swap_removed spots i gone c.args.slot within c.swap_remove.ensures.value of)
