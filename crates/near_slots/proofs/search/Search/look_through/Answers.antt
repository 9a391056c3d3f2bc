use Rattle.std.proofs.Common.{◌≡◌, List, [], get_or, subst, ◌∙◌}
use Rattle.std.specs.List.{Contains, Any}
use Rattle.std.proofs.lemmas.List.{get_or_default, take_all}
use Rattle.near_slots.specs.declared.buckets.Spot.{Spot}
use Rattle.near_slots.specs.Tables.{IsIn}
use Rattle.near_slots.specs.Looks.{Looks}
use Rattle.near_slots.proofs.LookLemmas.{Looks-through_more, Looks-fewer}
use Rattle.near_slots.proofs.search.Search.look_through.Goals as goal

pub loop-bucket-preserved : goal.loop-bucket-preserved
loop-bucket-preserved c =
    let i = c.loop-bucket.bucket-index in
    let lists = c.all-bucket-items.result.now in
    let here : c.spots.result.now ≡ get_or lists i [] = c.spots.ensures ∙ c.bucket-item.is ∙ get_or_default lists i _ [] c.loop-bucket-test.true in
    Looks-through_more _ _ _ lists i _ _ _ c.loop-bucket-test.true c.loop-bucket.invariant
    (subst (λ (xs : List Spot). Looks c.args.self.now.shelf.now c.args.self.now.layer c.args.self.now.rect (Contains xs)
    c.loop-bucket.found.items c.look_in.new.found.items) here c.in_ok-look_in.ensures)

pub returns : goal.returns
returns c =
    let lists = c.all-bucket-items.result.now in
    Looks-fewer _ _ _ (λ s. Any (λ spots. Contains spots s) lists) (IsIn c.args.table.now) _ _ c.all-bucket-items.ensures
    (subst (λ (xs : List (List Spot)). Looks c.args.self.now.shelf.now c.args.self.now.layer c.args.self.now.rect
    (λ s. Any (λ spots. Contains spots s) xs) c.args.found.now.items c.loop-bucket.found.items)
    (take_all c.loop-bucket.bucket-index lists c.loop-bucket-test.false) c.loop-bucket.invariant)
