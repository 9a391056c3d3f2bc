use Rattle.std.proofs.Common.{◌≡◌, arith}
use Rattle.session_wire.proofs.NumberTexts.{one_number}
use Rattle.answer_lines.proofs.numbers.number_in.Goals as goal

pub returns-then-number-least-clause-none : goal.returns-then-number-least-clause-none
returns-then-number-least-clause-none c = λ n f e.
    let some = c.in_ok-number.ensures.some in
    let same : c.in_ok-number.number ≡ n = one_number c.in_ok-number.number n c.args.word.now some.0 (omega (arith, f.1)) some.1 e in
    absurd (omega (arith, same, f.0, c.if-number-least.true))

pub returns-then-most-number-clause-none : goal.returns-then-most-number-clause-none
returns-then-most-number-clause-none c = λ n f e.
    let some = c.in_ok-number.ensures.some in
    let same : c.in_ok-number.number ≡ n = one_number c.in_ok-number.number n c.args.word.now some.0 (omega (arith, f.1)) some.1 e in
    absurd (omega (arith, same, f.1, c.if-most-number.true))
