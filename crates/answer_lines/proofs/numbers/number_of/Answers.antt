use Rattle.std.proofs.Common.{◌≡◌, length, get_or, arith, ◌<◌, inl, inr, sym}
use Rattle.std.proofs.lemmas.Bool.{eqb-true, eqb-false, cases_lt}
use Rattle.std.proofs.lemmas.Option.{IfSome_then}
use Rattle.session_wire.proofs.NumberTexts.{none_then}
use Rattle.session_wire.proofs.Digits.{HasForm, decimal_form, decimal_value, form_decimal, first_digit}
use Rattle.answer_lines.proofs.numbers.number_of.Goals as goal

pub returns-then-is_empty-clause-none : goal.returns-then-is_empty-clause-none
returns-then-is_empty-clause-none c = λ n lt e.
    let f : HasForm c.args.word.now = decimal_form n c.args.word.now lt e in
    let empty : length c.args.word.now ≡ 0 = eqb-true _ _ (sym c.if-is_empty.ensures) in
    absurd (omega (arith, f.some))

pub returns-then-word-eq43-clause-none : goal.returns-then-word-eq43-clause-none
returns-then-word-eq43-clause-none c = λ n lt e.
    let f : HasForm c.args.word.now = decimal_form n c.args.word.now lt e in
    let first = first_digit c.args.word.now f.digits f.some in
    absurd (omega (arith, first.0, c.if-word-eq43.true))

pub returns-then-word-gt1-clause-none : goal.returns-then-word-gt1-clause-none
returns-then-word-gt1-clause-none c = λ n lt e.
    let f : HasForm c.args.word.now = decimal_form n c.args.word.now lt e in
    absurd (omega (arith, f.lone c.if-word-eq48.true))

pub returns-clause-some : goal.returns-clause-some
returns-clause-some c = IfSome_then c.value_of.result c.value_of.ensures.some (λ n value.
    let some : 0 < length c.args.word.now = elim (cases_lt 0 (length c.args.word.now)) [ inl h ↦ h | inr h ↦ absurd (eqb-false _ _ (sym c.if-is_empty.ensures) (omega arith)) ] in
    let lone = λ (e : get_or c.args.word.now 0 0 ≡ 48). elim c.else-word-eq48.either as (λ _. length c.args.word.now ≡ 1) [ inl h ↦ omega (arith, h.1) | inr differs ↦ absurd (differs e) ] in
    let form : HasForm c.args.word.now = record { some = some; lone = lone; digits = value.0 } in
    (value.2, rw value.1 (form_decimal c.args.word.now form (omega (arith, value.1, value.2)))))

pub returns-clause-none : goal.returns-clause-none
returns-clause-none c = none_then c.value_of.result c.value_of.ensures.none (λ no n lt e.
    let f : HasForm c.args.word.now = decimal_form n c.args.word.now lt e in
    no f.digits f.some (omega (arith, decimal_value n c.args.word.now lt e)))
