use Rattle.std.proofs.Common.{List, subst, ◌∙◌}
use Rattle.std.proofs.lemmas.List.{take_all}
use Rattle.seg_geometry.specs.declared.near.Filed.{Filed}
use Rattle.near_tests.proofs.Scanned.{AreThose, those_more}
use Rattle.near_tests.proofs.scan.Scan.found.Goals as goal

pub loop-filed-preserved : goal.loop-filed-preserved
loop-filed-preserved c =
    those_more c.args.layer c.args.rect c.deref-filed-items.result.now c.loop-filed.filed-index _ _ _ c.loop-filed-test.true c.in_ok-add_near.ensures c.loop-filed.invariant

pub returns : goal.returns
returns c =
    let all : AreThose c.args.layer c.args.rect c.args.self.now c.loop-filed.ids.items = subst (λ (fs : List Filed). AreThose c.args.layer c.args.rect fs c.loop-filed.ids.items)
    (take_all c.loop-filed.filed-index c.deref-filed-items.result.now c.loop-filed-test.false ∙ c.deref-filed-items.ensures.value ∙ c.self.view_is) c.loop-filed.invariant in
    all.exact
