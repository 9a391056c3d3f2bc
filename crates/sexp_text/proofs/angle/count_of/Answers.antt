use Rattle.sexp_text.proofs.AngleReadings.{none_whole, none_either, none_rest, none_few}
use Rattle.sexp_text.proofs.angle.count_of.Goals as goal

pub returns-in_err-degrees-clause-none : goal.returns-in_err-degrees-clause-none
returns-in_err-degrees-clause-none c = none_either _ _ (none_whole c.args.decimal c.in_err-degrees.ensures.none)

pub returns-then-degrees-ne0-clause-none : goal.returns-then-degrees-ne0-clause-none
returns-then-degrees-ne0-clause-none c = none_rest c.args.decimal c.in_ok-degrees.degrees c.if-degrees-ne0.true c.in_ok-degrees.ensures.whole

pub returns-then-count-gt-LIMIT_EIGHTHS-clause-none :
    goal.returns-then-count-gt-LIMIT_EIGHTHS-clause-none
returns-then-count-gt-LIMIT_EIGHTHS-clause-none c = none_few c.args.decimal c.in_ok-degrees.degrees c.if-count-gt-LIMIT_EIGHTHS.true c.in_ok-degrees.ensures.whole
