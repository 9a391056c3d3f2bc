use Rattle.std.proofs.Common.{take}
use Rattle.session_wire.specs.Words.{IsWord}
use Rattle.answer_lines.proofs.words.word_len.Given as goal

abbrev pub invariant-loop-i : goal.invariant-loop-i
invariant-loop-i l = IsWord (take l.i l.text)
