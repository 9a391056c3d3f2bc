use Rattle.std.proofs.Common.{◌≡◌, ◌-◌, ◌*◌, ◌^◌}
use Rattle.sexp_text.proofs.rounding.shifted_up.Given as goal

abbrev pub invariant-loop-place : goal.invariant-loop-place
invariant-loop-place l = l.shifted * 10 ^ (l.places - l._place) ≡ l.number * 10 ^ l.places
