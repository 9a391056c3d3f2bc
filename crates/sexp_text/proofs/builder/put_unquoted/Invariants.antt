use Rattle.std.proofs.Common.{◌≡◌, ◌++◌, drop}
use Rattle.sexp_text.specs.Words.{unquoted}
use Rattle.sexp_text.proofs.builder.put_unquoted.Given as goal

abbrev pub invariant-loop-byte : goal.invariant-loop-byte
invariant-loop-byte l = l.pool ++ unquoted (drop l.byte-index l.bytes) ≡ l.initial.pool ++ unquoted l.bytes
