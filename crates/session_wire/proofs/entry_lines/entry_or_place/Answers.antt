use Rattle.std.proofs.Common.{arith}
use Rattle.session_wire.proofs.Lengths.{entry_left_fits}
use Rattle.session_wire.proofs.entry_lines.entry_or_place.Goals as goal

pub overflow_cast-result : goal.overflow_cast-result
overflow_cast-result c =
    let fits = entry_left_fits c.args.line.now c.in-Err-Left.field-0 c.in-Err-Left.left c.in-Err-Left.field-0-is c.in-Err-Left.ensures.err in
    omega (arith, fits)
