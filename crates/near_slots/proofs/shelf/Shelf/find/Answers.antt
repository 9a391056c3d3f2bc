use Rattle.std.proofs.Common.{◌≡◌, ℕ, List, Option, subst}
use Rattle.std.specs.List.{Contains}
use Rattle.std.proofs.lemmas.List.Elements.{All-more}
use Rattle.seg_geometry.specs.declared.near.Filed.{Filed}
use Rattle.near_slots.specs.Tables.{IsIn}
use Rattle.near_slots.specs.Slots.{IsFreeOf, HasIds}
use Rattle.near_slots.specs.declared.buckets.Spot.{Spot}
use Rattle.near_slots.proofs.SlotLemmas.{IsFreeOf-all}
use Rattle.near_slots.proofs.shelf.Shelf.find.Goals as goal

pub loop-spot-preserved : goal.loop-spot-preserved
loop-spot-preserved c = All-more (λ s. IsFreeOf c.args.id c.args.self.now s.slot) c.bucket-spot-items.result.now c.loop-spot.spot-index _
    c.loop-spot-test.true c.loop-spot.invariant c.in_default.ensures.none

pub returns-clause-none : goal.returns-clause-none
returns-clause-none c =
    let ids = c.self.inside.ids in
    let spots = c.bucket-spot-items.result.now in
    IsFreeOf-all ids c.args.self.now c.args.id spots c.loop-spot.spot-index c.loop-spot-test.false
    (subst (λ (slots : List (Option Filed)). HasIds ids slots) c.self.view_is c.self.invariant)
    (subst (λ (key : ℕ). (s : Spot) → s.key ≡ key → IsIn ids s → Contains spots s) c.from.ensures c.bucket-spot-items.ensures)
    c.loop-spot.invariant
