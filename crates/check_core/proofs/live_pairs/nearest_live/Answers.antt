use Rattle.std.proofs.Common.{◌+◌, ℕ, List, subst}
use Rattle.std.specs.Prelude.{Any}
use Rattle.std.specs.List.{Contains}
use Rattle.board_items.specs.declared.items.Item.{Item}
use Rattle.board_items.specs.Shapes.{copper_of_item}
use Rattle.board_rules.specs.Needs.{KeepsNeed}
use Rattle.board_rules.specs.Rules.{under}
use Rattle.check_core.specs.Filings.{IsFoundBy, FindsAll}
use Rattle.check_core.specs.Nearest.{IsLeastOf}
use Rattle.check_core.proofs.Least.{least_of_each}
use Rattle.check_core.proofs.Missing.{kept_where_missing}
use Rattle.check_core.proofs.Paired.{later_taken}
use Rattle.check_core.proofs.live_pairs.nearest_live.Goals as goal

pub first_later-requires-clause-near : goal.first_later-requires-clause-near
first_later-requires-clause-near g c =
    let p = c.args.design.now.parts in
    let filed = g.N.Near.filed c.args.near.now in
    λ id listed.
    let among = subst (λ (l : List ℕ). Contains l id) c.as_slice.ensures listed in
    let found = subst (λ (i : Item). Any (IsFoundBy c.args.by filed id) (copper_of_item p.stacks i)) c.view.ensures (c.in_ok-ids.ensures.sound id among) in
    later_taken p c.args.by 1 (c.args.number + 1) c.args.item.now c.args.board.now.live filed id c.next_id-next.ensures.rising c.requires.filed found

pub returns-clause-least : goal.returns-clause-least
returns-clause-least g c =
    let p = c.args.design.now.parts in
    let rules = under c.args.rules in
    let live = c.args.board.now.live in
    let x = c.args.item.now in
    let ids = c.in_ok-ids.ids in
    let finds = subst (λ (by : ℕ). FindsAll by (copper_of_item p.stacks x) (g.N.Near.filed c.args.near.now) ids) c.requires.largest
    (subst (λ (i : Item). FindsAll c.args.by (copper_of_item p.stacks i) (g.N.Near.filed c.args.near.now) ids) c.view.ensures c.in_ok-ids.ensures.all) in
    least_of_each (KeepsNeed p rules) live c.args.number x ids c.first_later.result
    (λ d y at missing. kept_where_missing p rules x live (g.N.Near.filed c.args.near.now) ids d y c.requires.filed finds at missing)
    (subst (λ (l : List ℕ). IsLeastOf (KeepsNeed p rules) live c.args.number x (Contains l) c.first_later.result) c.as_slice.ensures c.first_later.ensures.least)
