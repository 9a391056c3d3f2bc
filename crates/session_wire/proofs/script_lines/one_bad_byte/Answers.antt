use Rattle.session_wire.specs.Steps.{HasStep}
use Rattle.session_wire.proofs.PlaceLaws.{one_place}
use Rattle.session_wire.proofs.script_lines.one_bad_byte.Goals as goal

pub returns : goal.returns
returns c = one_place HasStep
