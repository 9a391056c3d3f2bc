use Rattle.answer_lines.proofs.ReasonTexts.{reason_form, reason_of}
use Rattle.answer_lines.proofs.reasons.is_reason.Goals as goal

pub returns : goal.returns
returns c = (λ t. reason_of c.args.text.now (c.has_form.ensures.0 t), λ r. c.has_form.ensures.1 (reason_form c.args.text.now r))
