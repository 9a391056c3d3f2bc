use Rattle.std.proofs.Common.{◌++◌, List, [], drop}
use Rattle.board_items.specs.declared.history.Call.{Call}
use Rattle.script_replay.specs.declared.master.Answered.{Answered}
use Rattle.script_replay.specs.Scripts.{events_of_steps}
use Rattle.script_replay.specs.Masters.{IsSerialMaster}
use Rattle.script_replay.specs.Replays.{Serves}
use Rattle.script_replay.proofs.Serving.{IsBehind}
use Rattle.script_replay.proofs.master.answer_steps.Given as goal

-- A run of the rest completes the run so far.
abbrev pub invariant-loop-step : goal.invariant-loop-step
invariant-loop-step g l = record {
  behind : IsBehind l.run.master.history (drop l.step-index l.script);
  master : IsSerialMaster l.design l.run.master;
  completes : (more : List Answered) (last : List Call) → Serves l.design l.run.master.history (events_of_steps (drop l.step-index l.script)) more last → Serves l.design [] (events_of_steps l.script) (l.run.answers ++ more) last;
}
