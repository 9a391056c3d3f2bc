use Rattle.std.proofs.Common.{◌+◌, ◌<◌, ◌≡◌, ◌∙◌, List, length, get_or, subst}
use Rattle.board_items.specs.declared.items.Item.{Item}
use Rattle.board_items.specs.Shapes.{copper_of_item}
use Rattle.check_core.specs.Filings.{Enters}
use Rattle.check_core.proofs.Entered.{items_more}
use Rattle.check_core.proofs.entering.enter_loaded.Goals as goal

pub loop-i-preserved : goal.loop-i-preserved
loop-i-preserved g c =
    let p = c.args.design.now.parts in
    let x = c.item-item.result in
    let e = c.as_slice-item-items.ensures ∙ c.items.ensures in
    let more = subst (λ (y : Item). Enters (c.loop-i.i + 1) (copper_of_item p.stacks y) (g.N.Near.filed c.loop-i.near) (g.N.Near.filed c.enter.new.near)) c.view.ensures c.in_ok-enter.ensures.entered in
    items_more p.stacks p.items c.loop-i.i x _ _ _
    (subst (λ (items : List Item). c.loop-i.i < length items) e c.loop-i-test.true)
    (subst (λ (items : List Item). x ≡ get_or items c.loop-i.i x) e c.item-item.is) more c.loop-i.invariant
