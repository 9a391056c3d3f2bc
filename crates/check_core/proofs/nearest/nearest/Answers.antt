use Rattle.std.proofs.Common.{ℕ, List, subst}
use Rattle.std.specs.List.{Contains}
use Rattle.board_items.specs.declared.items.Item.{Item}
use Rattle.board_items.specs.Shapes.{copper_of_item}
use Rattle.board_rules.specs.Needs.{KeepsNeed}
use Rattle.board_rules.specs.Rules.{under}
use Rattle.number_slots.specs.Slots.{numbered}
use Rattle.check_core.specs.Filings.{FindsAll}
use Rattle.check_core.specs.Nearest.{IsLeastOf}
use Rattle.check_core.proofs.Least.{least_of_each}
use Rattle.check_core.proofs.Missing.{kept_where_missing}
use Rattle.check_core.proofs.nearest.nearest.Goals as goal

pub returns : goal.returns
returns g c =
    let p = c.args.design.now.parts in
    let rules = under c.args.rules in
    let live = numbered 1 p.items in
    let x = c.args.item.now in
    let ids = c.in_ok-ids.ids in
    let finds = subst (λ (by : ℕ). FindsAll by (copper_of_item p.stacks x) (g.N.Near.filed c.args.near.now) ids) c.requires.largest
    (subst (λ (i : Item). FindsAll c.args.by (copper_of_item p.stacks i) (g.N.Near.filed c.args.near.now) ids) c.view.ensures c.in_ok-ids.ensures.all) in
    least_of_each (KeepsNeed p rules) live c.args.number x ids c.first_of.result
    (λ d y at missing. kept_where_missing p rules x live (g.N.Near.filed c.args.near.now) ids d y c.requires.filed finds at missing)
    (subst (λ (l : List ℕ). IsLeastOf (KeepsNeed p rules) live c.args.number x (Contains l) c.first_of.result) c.as_slice.ensures c.first_of.ensures)
