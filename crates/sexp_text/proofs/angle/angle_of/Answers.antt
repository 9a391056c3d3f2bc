use Rattle.std.proofs.Common.{rules, Ok, Err}
use Rattle.sexp_text.specs.declared.angle_fault.AngleFault.TheVariants.{NotNumber, NotAngle}
use Rattle.sexp_text.specs.Angles.{IsAngleUnless}
use Rattle.sexp_text.proofs.AngleLaws.{EachAngle, only_reading}
use Rattle.sexp_text.proofs.angle.angle_of.Goals as goal

pub returns-in_default-clause-reads : goal.returns-in_default-clause-reads
returns-in_default-clause-reads c =
    let each : EachAngle c.args.text.now (Err NotNumber) = search rules in
    only_reading c.args.text.now (Err NotNumber) each tt

pub returns-in_default-count_of-clause-reads : goal.returns-in_default-count_of-clause-reads
returns-in_default-count_of-clause-reads c =
    let each : EachAngle c.args.text.now (Err NotAngle) = search rules in
    let number : IsAngleUnless c.args.text.now (Err NotAngle) = search rules in
    only_reading c.args.text.now (Err NotAngle) each number

pub returns-clause-reads : goal.returns-clause-reads
returns-clause-reads c =
    let each : EachAngle c.args.text.now (Ok c.turned.result) = search rules in
    let number : IsAngleUnless c.args.text.now (Ok c.turned.result) = search rules in
    only_reading c.args.text.now (Ok c.turned.result) each number
