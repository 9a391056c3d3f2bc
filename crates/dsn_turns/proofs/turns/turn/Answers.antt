use Rattle.std.proofs.Common.{◌∙◌}
use Rattle.seg_geometry.specs.Points.{IsInRange}
use Rattle.dsn_turns.specs.Turns.{IsTurned}
use Rattle.dsn_turns.specs.Turning.{turn_of}
use Rattle.dsn_turns.proofs.Ranges.{found_of}
use Rattle.dsn_turns.proofs.TurnLaws.{turn_iff, turn_none}
use Rattle.dsn_turns.proofs.turns.turn.Goals as goal

pub returns-clause-found : goal.returns-clause-found
returns-clause-found c = found_of _ (turn_of c.args.p c.args.eighths c.args.flip) (λ q. IsTurned c.args.p c.args.eighths c.args.flip q × IsInRange q) (turn_iff c.args.p c.args.eighths c.args.flip) c.turned_within.ensures

pub returns-clause-none : goal.returns-clause-none
returns-clause-none c = turn_none c.turned_within.result c.args.p c.args.eighths c.args.flip c.turned_within.ensures

pub returns-clause-only : goal.returns-clause-only
returns-clause-only c = λ q is near. c.turned_within.ensures ∙ (turn_iff c.args.p c.args.eighths c.args.flip q).1 (is, near)
