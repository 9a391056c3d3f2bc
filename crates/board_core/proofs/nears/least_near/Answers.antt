use Rattle.std.proofs.Common.{ℕ, ◌≡◌, ◌+◌, false, true, refl, arith}
use Rattle.std.specs.Prelude.{Some, None}
use Rattle.board_items.specs.declared.items.Item.{Item}
use Rattle.board_items.specs.Adds.{item_seen}
use Rattle.board_rules.specs.Rules.{under}
use Rattle.board_core.specs.Edits.{IsNearItem}
use Rattle.board_core.specs.LiveItems.{live_from}
use Rattle.board_core.proofs.LiveItems.{walk_over}
use Rattle.board_core.proofs.Near.{fit_rest, rises_rest, near_pass, near_first, near_end, cost_on}
use Rattle.board_core.proofs.nears.least_near.Goals as goal

pub returns-then-is_near-clause-least : goal.returns-then-is_near-clause-least
returns-then-is_near-clause-least g c =
    let y : ℕ × Item = (c.in-Some.id.0, c.in-Some.other.now) in
    c.loop-i.invariant.same (Some c.in-Some.id.0) (near_first c.args.design.now.parts (under c.args.rules) c.args.deletes.now (item_seen c.args.item) (live_from c.args.items c.loop-i.i) y (live_from c.args.items (c.loop-i.i + 1)) c.in-Some.ensures.some c.loop-i.invariant.rising (c.if-is_near.ensures.near.0 refl))

pub loop-i-preserved : goal.loop-i-preserved
loop-i-preserved g c =
    let p = c.args.design.now.parts in
    let xs = live_from c.args.items c.loop-i.i in
    let y : ℕ × Item = (c.in-Some.id.0, c.in-Some.other.now) in
    let rest = live_from c.args.items (c.loop-i.i + 1) in
    let cut = c.in-Some.ensures.some in
    let none = λ (n : IsNearItem p (under c.args.rules) c.args.deletes.now (item_seen c.args.item) y). let wrong : false ≡ true = c.if-is_near.ensures.near.1 n in absurd cc in record {
      fit = fit_rest p xs y rest cut c.loop-i.invariant.fit;
      rising = rises_rest xs y rest cut c.loop-i.invariant.rising;
      same = λ r h. c.loop-i.invariant.same r (near_pass p (under c.args.rules) c.args.deletes.now (item_seen c.args.item) xs y rest r cut none h);
      cost = let on = cost_on p c.args.deletes.now (item_seen c.args.item) xs y rest cut in omega (arith, on, c.is_near.ensures.cost, c.loop-i.invariant.cost);
    }

pub returns-clause-least : goal.returns-clause-least
returns-clause-least g c =
    let over = walk_over c.args.items c.loop-i.i (omega (arith, c.loop-i-test.false, c.len-i-end.ensures)) in
    c.loop-i.invariant.same None (near_end c.args.design.now.parts (under c.args.rules) c.args.deletes.now (item_seen c.args.item) (live_from c.args.items c.loop-i.i) over)
