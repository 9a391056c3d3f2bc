use Rattle.std.proofs.Common.{rules, Ok, Err, to_z, of_z, w64}
use Rattle.sexp_text.specs.declared.num_fault.NumFault.TheVariants.{NotNumber, Range}
use Rattle.sexp_text.specs.Lengths.{IsNumberUnless}
use Rattle.sexp_text.proofs.LengthLaws.{EachLength, only_reading}
use Rattle.sexp_text.proofs.length.length_of.Goals as goal

pub returns-in_default-clause-reads : goal.returns-in_default-clause-reads
returns-in_default-clause-reads c =
    let each : EachLength c.args.unit c.args.text.now (Err NotNumber) = search rules in
    only_reading c.args.unit c.args.text.now (Err NotNumber) each tt

pub returns-in_default-size_of-clause-reads : goal.returns-in_default-size_of-clause-reads
returns-in_default-size_of-clause-reads c =
    let each : EachLength c.args.unit c.args.text.now (Err Range) = search rules in
    let number : IsNumberUnless c.args.text.now (Err Range) = search rules in
    only_reading c.args.unit c.args.text.now (Err Range) each number

pub returns-clause-reads : goal.returns-clause-reads
returns-clause-reads c =
    let z = to_z w64 (of_z w64 c.with_sign.result) in
    let each : EachLength c.args.unit c.args.text.now (Ok z) = search rules in
    let number : IsNumberUnless c.args.text.now (Ok z) = search rules in
    only_reading c.args.unit c.args.text.now (Ok z) each number
