use Rattle.std.proofs.Common.{◌≡◌, ℕ, ◌+◌, ◌<◌, ◌≤◌, List, length, get_or, subst, ◌∙◌}
use Rattle.std.specs.Prelude.{Option}
use Rattle.board_items.specs.declared.items.Item.{Item}
use Rattle.board_rules.specs.Needs.{KeepsNeed}
use Rattle.board_rules.specs.Rules.{under}
use Rattle.number_slots.specs.Slots.{numbered}
use Rattle.check_core.specs.Nearest.{IsLeastOf, Each}
use Rattle.check_core.proofs.KeptPairs.{pairs_none, pairs_more, pairs_all, pairs_here}
use Rattle.check_core.proofs.pairs.least_pair.Goals as goal

pub loop-i-init : goal.loop-i-init
loop-i-init g c = pairs_none c.args.design.now.parts (under c.args.rules) c.args.design.now.parts.items

pub returns-in-Some-clause-some : goal.returns-in-Some-clause-some
returns-in-Some-clause-some g c =
    let p = c.args.design.now.parts in
    let rules = under c.args.rules in
    let z = c.item-item.result in
    let e = c.as_slice-item-items.ensures ∙ c.items.ensures in
    pairs_here p rules p.items c.loop-i.i c.in-Some.other z
    (subst (λ (items : List Item). c.loop-i.i < length items) e c.loop-i-test.true)
    (subst (λ (items : List Item). z ≡ get_or items c.loop-i.i z) e c.item-item.is)
    (subst (λ (o : Option ℕ). IsLeastOf (KeepsNeed p rules) (numbered 1 p.items) (c.loop-i.i + 1) z Each o) c.in-Some.is c.in_ok-other.ensures) c.loop-i.invariant

pub loop-i-preserved : goal.loop-i-preserved
loop-i-preserved g c =
    let p = c.args.design.now.parts in
    let rules = under c.args.rules in
    let z = c.item-item.result in
    let e = c.as_slice-item-items.ensures ∙ c.items.ensures in
    pairs_more p rules p.items c.loop-i.i z
    (subst (λ (items : List Item). c.loop-i.i < length items) e c.loop-i-test.true)
    (subst (λ (items : List Item). z ≡ get_or items c.loop-i.i z) e c.item-item.is)
    (subst (λ (o : Option ℕ). IsLeastOf (KeepsNeed p rules) (numbered 1 p.items) (c.loop-i.i + 1) z Each o) c.in_default.is c.in_ok-other.ensures) c.loop-i.invariant

pub returns-clause-none : goal.returns-clause-none
returns-clause-none g c =
    let p = c.args.design.now.parts in
    pairs_all p (under c.args.rules) p.items c.loop-i.i (subst (λ (items : List Item). length items ≤ c.loop-i.i) (c.as_slice-item-items.ensures ∙ c.items.ensures) c.loop-i-test.false) c.loop-i.invariant
