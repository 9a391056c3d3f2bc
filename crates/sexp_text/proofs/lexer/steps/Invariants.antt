use Rattle.std.proofs.Common.{◌≡◌, drop}
use Rattle.sexp_text.specs.Scan.{scan}
use Rattle.sexp_text.specs.declared.modes.Before.TheVariants.{Other}
use Rattle.sexp_text.specs.declared.modes.Mode.TheVariants as mode
use Rattle.sexp_text.proofs.lexer.steps.Given as goal

abbrev pub invariant-loop-at : goal.invariant-loop-at
invariant-loop-at l = scan l.tokens l.mode l.at (drop l.at l.bytes) ≡ scan l.initial.tokens (mode.Gap Other) 0 l.bytes
