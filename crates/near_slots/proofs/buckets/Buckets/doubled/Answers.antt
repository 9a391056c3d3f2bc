use Rattle.std.proofs.Common.{◌≡◌, ◌<◌, List, [], length, get_or, sym, ap, ◌∙◌, subst, below_more, arith}
use Rattle.std.proofs.lemmas.List.{get_or_default}
use Rattle.near_slots.specs.declared.buckets.Spot.{Spot}
use Rattle.near_slots.specs.Tables.{Table, Keeps, HasAll}
use Rattle.near_slots.proofs.TableLemmas.{Keeps-from_buckets, HasAll-kept}
use Rattle.near_slots.proofs.buckets.Buckets.doubled.Goals as goal

pub loop-bucket-preserved : goal.loop-bucket-preserved
loop-bucket-preserved c =
    let i = c.loop-bucket.bucket-index in
    let here : c.spots.result.now ≡ get_or c.args.self.now.lists i [] = c.spots.ensures ∙ c.bucket-item.is
    ∙ get_or_default c.deref-bucket-items.result.now i _ [] c.loop-bucket-test.true
    ∙ ap (λ (xs : List (List Spot)). get_or xs i []) c.deref-bucket-items.ensures.value
    ∙ ap (λ (t : Table). get_or t.lists i []) c.self.view_is in
    below_more _ _ (λ j h. HasAll-kept _ _ _ c.in_ok-add_all.ensures.kept (c.loop-bucket.invariant j h))
    (subst (λ (xs : List Spot). HasAll c.add_all.new.self xs) here c.in_ok-add_all.ensures.added)

pub returns : goal.returns
returns c =
    let same : length c.args.self.now.lists ≡ length c.deref-bucket-items.result.now =
    ap (λ (t : Table). length t.lists) (sym c.self.view_is) ∙ ap length (sym c.deref-bucket-items.ensures.value) in
    let within : c.args.self.now.mask < length c.args.self.now.lists = subst (λ (t : Table). t.mask < length t.lists) c.self.view_is c.self.invariant in
    subst (λ (t : Table). Keeps c.args.self.now t) (sym c.table-2.view_is)
    (Keeps-from_buckets c.args.self.now c.loop-bucket.table c.loop-bucket.bucket-index within (omega arith) c.loop-bucket.invariant)
