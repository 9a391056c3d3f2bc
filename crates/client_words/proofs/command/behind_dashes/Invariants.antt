use Rattle.std.proofs.Common.{◌≡◌, ◌++◌, drop, map}
use Rattle.whole_files.specs.Words.{texts}
use Rattle.client_words.specs.Commands.{behind_dashes}
use Rattle.client_words.proofs.command.behind_dashes.Given as goal

abbrev pub invariant-loop-word : goal.invariant-loop-word
invariant-loop-word l = map (λ s. s.now) l.all.items ++ texts (drop l.word-index l.words) ≡ behind_dashes (texts l.words)
