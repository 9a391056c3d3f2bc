use Rattle.std.proofs.Common.{◌+◌, ◌≤◌, ℕ, ap, subst, arith}
use Rattle.std.specs.Prelude.{Option, IfSome}
use Rattle.board_items.specs.declared.items.Item.{Item}
use Rattle.board_rules.specs.Needs.{KeepsNeed, largest_of}
use Rattle.board_rules.specs.Rules.{under}
use Rattle.number_slots.specs.Slots.{IsAt, IsThere}
use Rattle.check_core.specs.NearCosts.{near_pairs_most, from_on}
use Rattle.check_core.specs.Nearest.{IsLeastOf, Each}
use Rattle.check_core.proofs.Paired.{below_first, below_more, pair_at, from_all}
use Rattle.check_core.proofs.live_pairs.least_pair_of.Goals as goal

pub loop-number-init : goal.loop-number-init
loop-number-init g c =
    let p = c.args.design.now.parts in
    let live = c.args.board.now.live in
    let next = c.next_id-number-end.ensures in
    let all = ap (near_pairs_most p (largest_of p (under c.args.rules))) (from_all 1 1 live (omega arith) next.rising) in record {
      kept = below_first p (under c.args.rules) live 1 (λ m x at. (next.within m x at).0);
      cost = omega (arith, all);
    }

pub returns-in-Some-clause-some : goal.returns-in-Some-clause-some
returns-in-Some-clause-some g c =
    let p = c.args.design.now.parts in
    let rules = under c.args.rules in
    let live = c.args.board.now.live in
    let n = c.loop-number.number in
    let least = subst (λ (o : Option ℕ). (x : Item) → IsAt live n x → IsLeastOf (KeepsNeed p rules) live n x Each o) c.in-Some.is c.in_ok-other.ensures.least in
    let there = subst (λ (o : Option ℕ). IfSome o (λ b. IsThere live n)) c.in-Some.is c.in_ok-other.ensures.there in
    pair_at p rules live n c.in-Some.other there least c.loop-number.invariant.kept

pub loop-number-preserved : goal.loop-number-preserved
loop-number-preserved g c =
    let p = c.args.design.now.parts in
    let rules = under c.args.rules in
    let live = c.args.board.now.live in
    let n = c.loop-number.number in
    let least = subst (λ (o : Option ℕ). (x : Item) → IsAt live n x → IsLeastOf (KeepsNeed p rules) live n x Each o) c.in_default.is c.in_ok-other.ensures.least in
    let cost = subst (λ (by : ℕ). c.nearest_at.new.steps + near_pairs_most p by (from_on (n + 1) live) ≤ c.loop-number.steps + near_pairs_most p by (from_on n live)) c.largest_clearance-by.ensures.largest c.in_ok-other.ensures.cost in record {
      kept = below_more p rules live n least c.loop-number.invariant.kept;
      cost = omega (arith, cost, c.loop-number.invariant.cost);
    }
