use Rattle.area_geometry.specs.Copper.{copper_of}
use Rattle.board_items.specs.Adds.{item_seen}
use Rattle.board_items.specs.Shapes.{copper_of_item}
use Rattle.std.proofs.Common.{List, subst}
use Rattle.std.specs.Prelude.{Some, slice_get, ◌≡◌}
use Rattle.board_items.specs.declared.items.Padstack.{Padstack}
use Rattle.check_core.proofs.Entered.{enters_more}
use Rattle.check_core.proofs.Leaving.{longer_join}
use Rattle.check_core.proofs.entering.enter.Goals as goal

pub loop-i-preserved : goal.loop-i-preserved
loop-i-preserved g c =
    let is = subst (λ (stacks : List Padstack). slice_get (copper_of_item stacks (item_seen c.args.item)) c.loop-i.i ≡ Some (copper_of c.shape_at.result)) c.stacks-in-loop-i.ensures c.shape_at.ensures in record {
      entered = enters_more c.args.id (copper_of_item c.args.design.now.parts.stacks (item_seen c.args.item)) c.loop-i.i (copper_of c.shape_at.result) _ _ _ is c.in_ok-enter_shape.ensures.entered c.loop-i.invariant.entered;
      own = longer_join c.args.id _ _ _ c.loop-i.invariant.own c.in_ok-enter_shape.ensures.own;
    }

pub returns-in_err-enter_shape-clause-own : goal.returns-in_err-enter_shape-clause-own
returns-in_err-enter_shape-clause-own g c = longer_join c.args.id _ _ _ c.loop-i.invariant.own c.in_err-enter_shape.ensures.own
