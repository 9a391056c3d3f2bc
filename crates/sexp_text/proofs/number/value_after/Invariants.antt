use Rattle.std.proofs.Common.{◌≡◌, ◌+◌, ◌-◌, ◌*◌, ◌^◌, ◌≤◌, length, drop}
use Rattle.std.specs.Str.Parse.{digits_value_after}
use Rattle.sexp_text.proofs.number.value_after.Given as goal

abbrev pub invariant-loop-c : goal.invariant-loop-c
invariant-loop-c l = record {
  value : digits_value_after 10 l.value (drop l.c-index l.digits) ≡ digits_value_after 10 l.initial.value l.digits;
  bound : (l.value + 1) * 10 ^ (length l.digits - l.c-index) ≤ (l.initial.value + 1) * 10 ^ length l.digits;
}
