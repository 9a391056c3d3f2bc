use Rattle.session_wire.proofs.Halts.{handed_halt}
use Rattle.session_wire.proofs.FenceTexts.{fence_at_layers, fence_at_area, fence_at_clients, fence_from}
use Rattle.session_wire.proofs.fences.fence_at.Goals as goal

pub returns-in_err-layers-clause-err : goal.returns-in_err-layers-clause-err
returns-in_err-layers-clause-err c =
    handed_halt _ c.in_err-layers.field-0.0 c.from_residual.ensures.1 c.in_err-layers.ensures.err (λ left. fence_at_layers c.args.line.now left c.requires)

pub returns-in_err-area-clause-err : goal.returns-in_err-area-clause-err
returns-in_err-area-clause-err c =
    handed_halt _ c.in_err-area.field-0.0 c.from_residual-in_err-area.ensures.1 c.in_err-area.ensures.err (λ left. fence_at_area c.args.line.now c.in_ok-layers.layers c.in_ok-layers.from_area.now left c.requires c.in_ok-layers.ensures.ok)

pub returns-in_err-clients-clause-err : goal.returns-in_err-clients-clause-err
returns-in_err-clients-clause-err c =
    handed_halt _ c.in_err-clients.field-0.0 c.from_residual-in_err-clients.ensures.1 c.in_err-clients.ensures.err (λ left. fence_at_clients c.args.line.now c.in_ok-layers.layers c.in_ok-layers.from_area.now c.in_ok-area.area c.in_ok-area.from_clients.now left c.requires c.in_ok-layers.ensures.ok c.in_ok-area.ensures.ok)

pub returns-clause-ok : goal.returns-clause-ok
returns-clause-ok c =
    fence_from c.args.line.now c.in_ok-layers.layers c.in_ok-layers.from_area.now c.in_ok-area.area c.in_ok-area.from_clients.now c.in_ok-clients.clients c.in_ok-clients.rest.now c.in_ok-layers.ensures.ok c.in_ok-area.ensures.ok c.in_ok-clients.ensures.ok
