use Rattle.std.proofs.Common.{◌≡◌, drop}
use Rattle.dsn_turns.specs.Turning.{through}
use Rattle.dsn_turns.proofs.moves.led.Given as goal

abbrev pub invariant-loop-step : goal.invariant-loop-step
invariant-loop-step l = through (drop l.step-index l.steps) l.place ≡ through l.steps l.initial.place
