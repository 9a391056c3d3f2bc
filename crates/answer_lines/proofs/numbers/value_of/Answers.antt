use Rattle.std.proofs.Common.{sym, ◌∙◌}
use Rattle.session_wire.proofs.Digits.{digits_utf8}
use Rattle.session_wire.proofs.NumberTexts.{err_says}
use Rattle.answer_lines.proofs.numbers.value_of.Goals as goal

pub returns-in_err-text-clause-none : goal.returns-in_err-text-clause-none
returns-in_err-text-clause-none c =
    rw c.from_residual.ensures (λ digits some low. err_says _ _ c.from_utf8.result (sym c.ok.ensures.value ∙ c.in_err-text.was) c.from_utf8.ensures.cases (λ e no. no.0 (digits_utf8 c.args.digits.now digits)))
