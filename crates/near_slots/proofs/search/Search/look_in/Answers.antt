use Rattle.std.proofs.Common.{List, subst}
use Rattle.std.specs.List.{Contains}
use Rattle.std.proofs.lemmas.List.{take_all}
use Rattle.near_slots.specs.declared.buckets.Spot.{Spot}
use Rattle.near_slots.specs.Looks.{Looks}
use Rattle.near_slots.proofs.LookLemmas.{Looks-in_more}
use Rattle.near_slots.proofs.search.Search.look_in.Goals as goal

pub loop-spot-preserved : goal.loop-spot-preserved
loop-spot-preserved c = Looks-in_more _ _ _ c.args.spots.now c.loop-spot.spot-index _ _ _ _ c.loop-spot-test.true c.loop-spot.invariant c.in_ok-look_at.ensures

pub returns : goal.returns
returns c = subst (λ (xs : List Spot). Looks c.args.self.now.shelf.now c.args.self.now.layer c.args.self.now.rect (Contains xs) c.args.found.now.items c.loop-spot.found.items)
    (take_all c.loop-spot.spot-index c.args.spots.now c.loop-spot-test.false) c.loop-spot.invariant
