use Rattle.session_wire.proofs.Halts.{handed_count, handed_halt}
use Rattle.session_wire.proofs.WireTexts.{wire_at_net, wire_at_layer, wire_at_width, wire_at_points, wire_from}
use Rattle.session_wire.proofs.adds.wire_at.Goals as goal

pub returns-in_err-net-clause-err : goal.returns-in_err-net-clause-err
returns-in_err-net-clause-err c = handed_count _ c.in_err-net.field-0.0 c.from_residual.ensures.1 (wire_at_net c.args.line.now c.in_err-net.field-0.0 c.requires c.in_err-net.ensures.err)

pub returns-in_err-layer-clause-err : goal.returns-in_err-layer-clause-err
returns-in_err-layer-clause-err c =
    handed_count _ c.in_err-layer.field-0.0 c.from_residual-in_err-layer.ensures.1 (wire_at_layer c.args.line.now c.in_ok-net.net c.in_ok-net.from_layer.now c.in_err-layer.field-0.0 c.in_ok-net.ensures.ok c.in_err-layer.ensures.err)

pub returns-in_err-width-clause-err : goal.returns-in_err-width-clause-err
returns-in_err-width-clause-err c =
    handed_count _ c.in_err-width.field-0.0 c.from_residual-in_err-width.ensures.1 (wire_at_width c.args.line.now c.in_ok-net.net c.in_ok-layer.layer c.in_ok-net.from_layer.now c.in_ok-layer.from_width.now c.in_err-width.field-0.0 c.in_ok-net.ensures.ok c.in_ok-layer.ensures.ok c.in_err-width.ensures.err)

pub returns-in_err-points-clause-err : goal.returns-in_err-points-clause-err
returns-in_err-points-clause-err c =
    handed_halt _ c.in_err-points.field-0.0 c.from_residual-in_err-points.ensures.1 c.in_err-points.ensures.err (λ left. wire_at_points c.args.line.now c.in_ok-net.net c.in_ok-layer.layer c.in_ok-width.width c.in_ok-net.from_layer.now c.in_ok-layer.from_width.now c.in_ok-width.from_points.now left c.in_ok-net.ensures.ok c.in_ok-layer.ensures.ok c.in_ok-width.ensures.ok)

pub returns-clause-ok : goal.returns-clause-ok
returns-clause-ok c =
    wire_from c.args.line.now c.in_ok-net.net c.in_ok-layer.layer c.in_ok-width.width c.in_ok-points.points c.in_ok-net.from_layer.now c.in_ok-layer.from_width.now c.in_ok-width.from_points.now c.in_ok-points.rest.now c.in_ok-net.ensures.ok c.in_ok-layer.ensures.ok c.in_ok-width.ensures.ok c.in_ok-points.ensures.ok
