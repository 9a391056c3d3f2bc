use Rattle.std.proofs.Common.{◌≡◌, drop}
use Rattle.sexp_text.specs.Build.{levels}
use Rattle.sexp_text.proofs.levels.levels.Given as goal

abbrev pub invariant-loop-token : goal.invariant-loop-token
invariant-loop-token l = levels l.level (drop l.token-index l.tokens) ≡ levels 0 l.tokens
