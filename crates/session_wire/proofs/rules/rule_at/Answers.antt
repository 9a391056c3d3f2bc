use Rattle.session_wire.proofs.Halts.{handed_count}
use Rattle.session_wire.proofs.RuleTexts.{rule_at_class, rule_at_clearance, rule_from}
use Rattle.session_wire.proofs.rules.rule_at.Goals as goal

pub returns-in_err-class-clause-err : goal.returns-in_err-class-clause-err
returns-in_err-class-clause-err c = handed_count _ c.in_err-class.field-0.0 c.from_residual.ensures.1 (rule_at_class c.args.line.now c.in_err-class.field-0.0 c.requires c.in_err-class.ensures.err)

pub returns-in_err-clearance-clause-err : goal.returns-in_err-clearance-clause-err
returns-in_err-clearance-clause-err c =
    handed_count _ c.in_err-clearance.field-0.0 c.from_residual-in_err-clearance.ensures.1 (rule_at_clearance c.args.line.now c.in_ok-class.class c.in_ok-class.from_clearance.now c.in_err-clearance.field-0.0 c.requires c.in_ok-class.ensures.ok c.in_err-clearance.ensures.err)

pub returns-clause-ok : goal.returns-clause-ok
returns-clause-ok c = rule_from c.args.line.now c.in_ok-class.class c.in_ok-clearance.clearance c.in_ok-class.from_clearance.now c.in_ok-clearance.rest.now c.in_ok-class.ensures.ok c.in_ok-clearance.ensures.ok
