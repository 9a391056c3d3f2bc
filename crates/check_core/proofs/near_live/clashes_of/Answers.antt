use Rattle.std.proofs.Common.{◌≤◌, ◌+◌, ℕ, List, get_or, sym, subst, arith}
use Rattle.std.specs.Prelude.{Any}
use Rattle.std.specs.List.{Contains}
use Rattle.std.specs.List.Sorted.{IsStrictlyIncreasing}
use Rattle.std.proofs.lemmas.List.Elements.{Contains-get_or}
use Rattle.board_items.specs.Adds.{item_seen}
use Rattle.board_items.specs.Shapes.{copper_of_item}
use Rattle.board_rules.specs.Rules.{under}
use Rattle.number_slots.specs.Sums.{sum_between}
use Rattle.board_core.specs.Edits.{IsNear}
use Rattle.check_core.specs.Filings.{IsFoundBy, FindsAll}
use Rattle.check_core.specs.NearCosts.{near_pair_most}
use Rattle.check_core.proofs.Putting.{put_more, put_all}
use Rattle.check_core.proofs.Tested.{bounded_more, bounded_all, near_taken}
use Rattle.check_core.proofs.near_live.clashes_of.Goals as goal

pub returns-in_err-put_near-clause-cost : goal.returns-in_err-put_near-clause-cost
returns-in_err-put_near-clause-cost g c =
    let p = c.args.design.now.parts in
    let item = item_seen c.args.item in
    let live = c.args.board.now.live in
    let filed = g.N.Near.filed c.args.near.now in
    let ids = c.as_slice-id-items.result.now in
    let i = c.loop-id.id-index in
    let rising = subst IsStrictlyIncreasing (sym c.as_slice-id-items.ensures) c.in_ok-ids.ensures.all.rising in
    let sound = subst (λ (l : List ℕ). (n : ℕ) → Contains l n → Any (IsFoundBy c.args.by filed n) (copper_of_item p.stacks item)) (sym c.as_slice-id-items.ensures) c.in_ok-ids.ensures.sound in
    let here = sound (get_or ids i 0) (Contains-get_or ids i 0 c.loop-id-test.true) in
    let same = near_taken p c.args.by 1 item live filed (get_or ids i 0) c.next_id-next.ensures.rising c.requires.filed here in
    let spent : c.put_near.new.steps ≤ c.loop-id.steps + sum_between (near_pair_most p c.args.by item) (get_or ids i 0) (get_or ids i 0 + 1) live = omega (arith, same, c.put_near.ensures.cost) in
    bounded_all (near_pair_most p c.args.by item) 0 live ids (i + 1) c.args.steps.now c.put_near.new.steps
    (bounded_more (near_pair_most p c.args.by item) 0 live ids i 0 c.args.steps.now c.loop-id.steps c.put_near.new.steps rising c.loop-id-test.true c.loop-id.invariant.cost spent)

pub loop-id-preserved : goal.loop-id-preserved
loop-id-preserved g c =
    let p = c.args.design.now.parts in
    let item = item_seen c.args.item in
    let live = c.args.board.now.live in
    let filed = g.N.Near.filed c.args.near.now in
    let ids = c.as_slice-id-items.result.now in
    let i = c.loop-id.id-index in
    let rising = subst IsStrictlyIncreasing (sym c.as_slice-id-items.ensures) c.in_ok-ids.ensures.all.rising in
    let sound = subst (λ (l : List ℕ). (n : ℕ) → Contains l n → Any (IsFoundBy c.args.by filed n) (copper_of_item p.stacks item)) (sym c.as_slice-id-items.ensures) c.in_ok-ids.ensures.sound in
    let here = sound (get_or ids i 0) (Contains-get_or ids i 0 c.loop-id-test.true) in
    let same = near_taken p c.args.by 1 item live filed (get_or ids i 0) c.next_id-next.ensures.rising c.requires.filed here in
    let spent : c.put_near.new.steps ≤ c.loop-id.steps + sum_between (near_pair_most p c.args.by item) (get_or ids i 0) (get_or ids i 0 + 1) live = omega (arith, same, c.put_near.ensures.cost) in record {
      put = put_more (IsNear p (under c.args.rules) live c.args.deletes.now item) ids i 0 c.loop-id.clashes c.put_near.new.clashes rising c.loop-id-test.true c.in_ok-put_near.ensures.put c.loop-id.invariant.put;
      cost = bounded_more (near_pair_most p c.args.by item) 0 live ids i 0 c.args.steps.now c.loop-id.steps c.put_near.new.steps rising c.loop-id-test.true c.loop-id.invariant.cost spent;
    }

pub returns-clause-exact : goal.returns-clause-exact
returns-clause-exact g c =
    let p = c.args.design.now.parts in
    let item = item_seen c.args.item in
    let filed = g.N.Near.filed c.args.near.now in
    let ids = c.as_slice-id-items.result.now in
    let finds = subst (λ (by : ℕ). FindsAll by (copper_of_item p.stacks item) filed ids) c.requires.largest (subst (λ (l : List ℕ). FindsAll c.args.by (copper_of_item p.stacks item) filed l) (sym c.as_slice-id-items.ensures) c.in_ok-ids.ensures.all) in
    put_all p (under c.args.rules) item c.args.board.now.live c.args.deletes.now filed ids c.loop-id.id-index c.loop-id.clashes c.loop-id-test.false c.requires.filed finds c.loop-id.invariant.put

pub returns-clause-cost : goal.returns-clause-cost
returns-clause-cost g c =
    bounded_all (near_pair_most c.args.design.now.parts c.args.by (item_seen c.args.item)) 0 c.args.board.now.live c.as_slice-id-items.result.now c.loop-id.id-index c.args.steps.now c.loop-id.steps c.loop-id.invariant.cost
