use Rattle.session_wire.specs.Steps.{HasStep}
use Rattle.session_wire.proofs.PlaceLaws.{some_place}
use Rattle.session_wire.proofs.script_lines.each_line_has_a_step_or_is_bad.Goals as goal

pub returns : goal.returns
returns c = λ line none nowhere. some_place HasStep line (λ is. none is.0 is.1) nowhere
