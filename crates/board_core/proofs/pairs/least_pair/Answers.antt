use Rattle.std.proofs.Common.{ℕ, ◌+◌, [], arith}
use Rattle.std.specs.Prelude.{Some, None}
use Rattle.board_items.specs.declared.items.Item.{Item}
use Rattle.board_rules.specs.Rules.{under}
use Rattle.number_slots.specs.Leasts.{IsLeast}
use Rattle.board_core.specs.Edits.{IsNear}
use Rattle.board_core.specs.LiveItems.{live_from}
use Rattle.board_core.proofs.LiveItems.{walk_over}
use Rattle.board_core.proofs.Near.{fit_rest, rises_rest}
use Rattle.board_core.proofs.Cleaned.{clean_on, pair_here, clean_end, pairs_on}
use Rattle.board_core.proofs.pairs.least_pair.Goals as goal

pub least_near-requires-clause-rising : goal.least_near-requires-clause-rising
least_near-requires-clause-rising g c =
    let x : ℕ × Item = (c.in-Some.id.0, c.in-Some.item.now) in
    rises_rest (live_from c.args.items c.loop-i.i) x (live_from c.args.items (c.loop-i.i + 1)) c.in-Some.ensures.some c.loop-i.invariant.rising

pub returns-in-Some-least_near-clause-some : goal.returns-in-Some-least_near-clause-some
returns-in-Some-least_near-clause-some g c =
    let p = c.args.design.now.parts in
    let rest = live_from c.args.items (c.loop-i.i + 1) in
    let x : ℕ × Item = (c.in-Some.id.0, c.in-Some.item.now) in
    let b = c.in-Some-least_near.other in
    let near : IsLeast (IsNear p (under c.args.rules) rest [] x.1) (Some b) = rw c.view.ensures at c.in-Some-least_near.ensures.least in
    c.loop-i.invariant.same (Some (c.in-Some.id, record { 0 = b })) (pair_here p (under c.args.rules) (live_from c.args.items c.loop-i.i) x rest b c.in-Some.ensures.some c.loop-i.invariant.rising near)

pub returns-in-Some-least_near-clause-cost : goal.returns-in-Some-least_near-clause-cost
returns-in-Some-least_near-clause-cost g c =
    let x : ℕ × Item = (c.in-Some.id.0, c.in-Some.item.now) in
    let on = pairs_on c.args.design.now.parts (live_from c.args.items c.loop-i.i) x (live_from c.args.items (c.loop-i.i + 1)) c.in-Some.ensures.some in
    let taken = rw c.view.ensures at c.least_near.ensures.cost in omega (arith, on, taken, c.loop-i.invariant.cost)

pub loop-i-preserved : goal.loop-i-preserved
loop-i-preserved g c =
    let p = c.args.design.now.parts in
    let xs = live_from c.args.items c.loop-i.i in
    let rest = live_from c.args.items (c.loop-i.i + 1) in
    let x : ℕ × Item = (c.in-Some.id.0, c.in-Some.item.now) in
    let cut = c.in-Some.ensures.some in
    let none : IsLeast (IsNear p (under c.args.rules) rest [] x.1) None = rw c.view.ensures at c.in_default-least_near.ensures.least in
    let taken = rw c.view.ensures at c.least_near.ensures.cost in record {
      fit = fit_rest p xs x rest cut c.loop-i.invariant.fit;
      rising = rises_rest xs x rest cut c.loop-i.invariant.rising;
      same = λ r h. c.loop-i.invariant.same r (clean_on p (under c.args.rules) xs x rest r cut c.loop-i.invariant.rising none h);
      cost = let on = pairs_on p xs x rest cut in omega (arith, on, taken, c.loop-i.invariant.cost);
    }

pub returns-clause-none : goal.returns-clause-none
returns-clause-none g c =
    let over = walk_over c.args.items c.loop-i.i (omega (arith, c.loop-i-test.false, c.len-i-end.ensures)) in
    c.loop-i.invariant.same None (clean_end c.args.design.now.parts (under c.args.rules) (live_from c.args.items c.loop-i.i) over)
