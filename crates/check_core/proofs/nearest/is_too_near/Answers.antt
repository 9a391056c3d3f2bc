use Rattle.std.proofs.Common.{◌≡◌, ◌-◌, ◌<◌, ◌≤◌, List, length, get_or, subst, ◌∙◌}
use Rattle.std.specs.Prelude.{IsTrue, ◌↔◌}
use Rattle.board_items.specs.declared.items.Item.{Item}
use Rattle.board_items.specs.Adds.{item_seen}
use Rattle.board_rules.specs.Needs.{KeepsNeed}
use Rattle.board_rules.specs.Rules.{under}
use Rattle.check_core.proofs.Tests.{too_near_when, kept_when, kept_past}
use Rattle.check_core.proofs.nearest.is_too_near.Goals as goal

pub returns-in-None-clause-kept : goal.returns-in-None-clause-kept
returns-in-None-clause-kept g c =
    let p = c.args.design.now.parts in
    λ _. kept_past (KeepsNeed p (under c.args.rules)) p.items c.args.number c.args.id c.args.item.now c.if-id-number.false
    (subst (λ (items : List Item). length items ≤ c.args.id - 1) (c.as_slice.ensures ∙ c.items.ensures) c.in-None.ensures.lookup.3)

pub returns-in-Some-clause-near : goal.returns-in-Some-clause-near
returns-in-Some-clause-near g c =
    let p = c.args.design.now.parts in
    let z = c.in-Some.other.now in
    let e = c.as_slice.ensures ∙ c.items.ensures in
    let h = c.in-Some.ensures.lookup in
    too_near_when (KeepsNeed p (under c.args.rules)) p.items c.args.number c.args.id c.args.item.now z c.pair_keeps.result c.if-id-number.false
    (subst (λ (items : List Item). c.args.id - 1 < length items) e h.3.0)
    (subst (λ (items : List Item). z ≡ get_or items (c.args.id - 1) z) e h.1)
    (subst (λ (w : Item). IsTrue c.pair_keeps.result ↔ KeepsNeed p (under c.args.rules) w z) c.view.ensures (subst (λ (w : Item). IsTrue c.pair_keeps.result ↔ KeepsNeed p (under c.args.rules) (item_seen c.view.result) w) c.view-in-Some.ensures c.pair_keeps.ensures.keeps))

pub returns-in-Some-clause-kept : goal.returns-in-Some-clause-kept
returns-in-Some-clause-kept g c =
    let p = c.args.design.now.parts in
    let z = c.in-Some.other.now in
    let e = c.as_slice.ensures ∙ c.items.ensures in
    let h = c.in-Some.ensures.lookup in
    kept_when (KeepsNeed p (under c.args.rules)) p.items c.args.number c.args.id c.args.item.now z c.pair_keeps.result c.if-id-number.false
    (subst (λ (items : List Item). c.args.id - 1 < length items) e h.3.0)
    (subst (λ (items : List Item). z ≡ get_or items (c.args.id - 1) z) e h.1)
    (subst (λ (w : Item). IsTrue c.pair_keeps.result ↔ KeepsNeed p (under c.args.rules) w z) c.view.ensures (subst (λ (w : Item). IsTrue c.pair_keeps.result ↔ KeepsNeed p (under c.args.rules) (item_seen c.view.result) w) c.view-in-Some.ensures c.pair_keeps.ensures.keeps))
