use Rattle.std.proofs.Common.{◌≡◌, ◌≤◌, ◌+◌, ◌*◌, List, length, drop, arith, refl, sym, subst, true, false}
use Rattle.seg_geometry.specs.declared.points.Pt.{Pt}
use Rattle.area_geometry.specs.Copper.{copper_of, pieces_of}
use Rattle.area_geometry.specs.Apart.{LiesWithin}
use Rattle.board_rules.specs.Designs.{IsFitArea}
use Rattle.board_rules.specs.Costs.{edges_of}
use Rattle.board_rules.proofs.Counts.{edges_left, one_less}
use Rattle.board_rules.proofs.Walked.{all_left, all_more, none_holds, one_holds}
use Rattle.board_rules.proofs.outline.lies_in_one.Goals as goal

pub returns-then-lies_within-clause-within : goal.returns-then-lies_within-clause-within
returns-then-lies_within-clause-within g c = one_holds (LiesWithin (copper_of c.args.s)) c.args.areas.now c.loop-area.area-index c.area-item.result c.loop-area-test.true c.area-item.is (subst (λ (area : List Pt). LiesWithin (copper_of c.args.s) area) c.as_slice.ensures (c.if-lies_within.ensures.within.0 refl))

pub returns-then-lies_within-clause-cost : goal.returns-then-lies_within-clause-cost
returns-then-lies_within-clause-cost g c =
    let left = edges_left c.args.areas.now c.loop-area.area-index c.area-item.result c.loop-area-test.true c.area-item.is in
    let cost = subst (λ (area : List Pt). c.lies_within.new.steps ≤ c.loop-area.steps + length (pieces_of (copper_of c.args.s)) * length area) c.as_slice.ensures c.if-lies_within.ensures.cost in
    let spent = one_less (length (pieces_of (copper_of c.args.s))) c.loop-area.steps (edges_of (drop c.loop-area.area-index c.args.areas.now)) (length c.area-item.result) (edges_of (drop (c.loop-area.area-index + 1) c.args.areas.now)) _ _ left c.loop-area.invariant.cost cost in
    omega (arith, spent)

pub loop-area-preserved : goal.loop-area-preserved
loop-area-preserved g c =
    let left = edges_left c.args.areas.now c.loop-area.area-index c.area-item.result c.loop-area-test.true c.area-item.is in
    let cost = subst (λ (area : List Pt). c.lies_within.new.steps ≤ c.loop-area.steps + length (pieces_of (copper_of c.args.s)) * length area) c.as_slice.ensures c.if-lies_within.ensures.cost in
    record {
      left = all_left IsFitArea c.args.areas.now c.loop-area.area-index c.area-item.result c.loop-area-test.true c.area-item.is c.loop-area.invariant.left;
      cost = one_less (length (pieces_of (copper_of c.args.s))) c.loop-area.steps (edges_of (drop c.loop-area.area-index c.args.areas.now)) (length c.area-item.result) (edges_of (drop (c.loop-area.area-index + 1) c.args.areas.now)) _ _ left c.loop-area.invariant.cost cost;
      none = all_more (λ (area : List Pt). LiesWithin (copper_of c.args.s) area → ⊥) c.args.areas.now c.loop-area.area-index c.area-item.result c.loop-area-test.true c.area-item.is c.loop-area.invariant.none (λ w. let e : false ≡ true = c.if-lies_within.ensures.within.1 (subst (λ (area : List Pt). LiesWithin (copper_of c.args.s) area) (sym c.as_slice.ensures) w) in absurd cc);
    }

pub returns-clause-within : goal.returns-clause-within
returns-clause-within g c = none_holds (LiesWithin (copper_of c.args.s)) c.args.areas.now c.loop-area.area-index (omega arith) c.loop-area.invariant.none
