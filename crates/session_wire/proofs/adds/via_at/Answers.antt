use Rattle.session_wire.proofs.Halts.{err_is}
use Rattle.session_wire.proofs.ViaTexts.{via_at_net, via_at_padstack, via_at_place, via_from}
use Rattle.session_wire.proofs.adds.via_at.Goals as goal

pub returns-in_err-net-clause-err : goal.returns-in_err-net-clause-err
returns-in_err-net-clause-err c = err_is _ c.in_err-net.field-0.0 _ c.from_residual.ensures.1 (via_at_net c.args.line.now c.in_err-net.field-0.0 c.requires c.in_err-net.ensures.err)

pub returns-in_err-padstack-clause-err : goal.returns-in_err-padstack-clause-err
returns-in_err-padstack-clause-err c =
    err_is _ c.in_err-padstack.field-0.0 _ c.from_residual-in_err-padstack.ensures.1 (via_at_padstack c.args.line.now c.in_ok-net.net c.in_ok-net.from_padstack.now c.in_err-padstack.field-0.0 c.in_ok-net.ensures.ok c.in_err-padstack.ensures.err)

pub returns-in_err-at-clause-err : goal.returns-in_err-at-clause-err
returns-in_err-at-clause-err c =
    err_is _ c.in_err-at.field-0.0 _ c.from_residual-in_err-at.ensures.1 (via_at_place c.args.line.now c.in_ok-net.net c.in_ok-padstack.padstack c.in_ok-net.from_padstack.now c.in_ok-padstack.from_place.now c.in_err-at.field-0.0 c.in_ok-net.ensures.ok c.in_ok-padstack.ensures.ok c.in_err-at.ensures.err)

pub returns-clause-ok : goal.returns-clause-ok
returns-clause-ok c =
    via_from c.args.line.now c.in_ok-net.net c.in_ok-padstack.padstack c.in_ok-at.at c.in_ok-net.from_padstack.now c.in_ok-padstack.from_place.now c.in_ok-at.rest.now c.in_ok-net.ensures.ok c.in_ok-padstack.ensures.ok c.in_ok-at.ensures.ok
