use Rattle.std.proofs.Common.{◌≡◌, ◌++◌, ℕ, length, ap, sym, ◌∙◌, arith, rules}
use Rattle.std.specs.Str.Parse.{digits_value}
use Rattle.sexp_text.proofs.DigitLists.{after_append}
use Rattle.sexp_text.proofs.Roundings.{room_of, room_behind, room_total}
use Rattle.sexp_text.proofs.number.read_digits.Goals as goal

pub value_after-requires-clause-fits : goal.value_after-requires-clause-fits
value_after-requires-clause-fits c = omega (arith, room_of (length c.args.whole.now) 38 (omega arith))

pub value_after-value-requires-clause-fits : goal.value_after-value-requires-clause-fits
value_after-value-requires-clause-fits c = room_behind c.value_after.result (length c.args.whole.now) (length c.args.fraction.now) c.value_after.ensures.bound (omega arith)

pub returns-clause-value : goal.returns-clause-value
returns-clause-value c =
    let same : c.value_after-value.result ≡ digits_value 10 (c.args.whole.now ++ c.args.fraction.now) =
    c.value_after-value.ensures.value ∙ rw c.value_after.ensures.value (sym (after_append 0 c.args.whole.now c.args.fraction.now)) in
    (record { whole_digits = search rules; fraction_digits = search rules; some = omega arith; at_most = omega arith }, ap (λ (v : ℕ). (v, length c.args.fraction.now)) same)

pub returns-clause-bound : goal.returns-clause-bound
returns-clause-bound c = (room_total c.value_after-value.result c.value_after.result (length c.args.whole.now) (length c.args.fraction.now) c.value_after.ensures.bound c.value_after-value.ensures.bound (omega arith), omega arith)
