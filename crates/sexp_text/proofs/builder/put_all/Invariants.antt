use Rattle.std.proofs.Common.{◌≡◌, ◌+◌, ◌<◌, ◌^◌, length}
use Rattle.sexp_text.specs.Build.{build, bulk, amount}
use Rattle.sexp_text.proofs.builder.put_all.Given as goal

abbrev pub invariant-tokens : goal.invariant-tokens
invariant-tokens l = (build l.text l.rest l.b ≡ build l.text l.initial.rest l.initial.b) × (amount l.b + bulk l.rest < 2 ^ 32)

abbrev pub decreases-tokens : goal.decreases-tokens
decreases-tokens l = length l.rest
