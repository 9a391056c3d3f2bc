use Rattle.std.proofs.Common.{◌≡◌, ◌++◌, drop}
use Rattle.std.specs.List.{flat_map}
use Rattle.script_replay.specs.Replays.{answer_line}
use Rattle.script_replay.proofs.texts.put_answers.Given as goal

abbrev pub invariant-loop-answered : goal.invariant-loop-answered
invariant-loop-answered l = l.out ++ flat_map answer_line (drop l.answered-index l.answers) ≡ l.initial.out ++ flat_map answer_line l.answers
