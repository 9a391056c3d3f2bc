use Rattle.std.proofs.Common.{◌++◌, ◌∷◌, []}
use Rattle.std.specs.Prelude.{decimal}
use Rattle.whole_files.proofs.Tells.{tells_first, tells_rest}
use Rattle.whole_files.proofs.lines.tell_number.Goals as goal

pub returns-in-Ok : goal.returns-in-Ok
returns-in-Ok g c =
    tells_rest c.args.word.now (decimal c.args.number ++ 10 ∷ []) (g.O.Sink.told c.args.out.now) (g.O.Sink.told c.put_out.new.out) (g.O.Sink.told c.tell_digits.new.out) c.in-Ok.ensures.ok c.tell_digits.ensures

pub returns-in-Err : goal.returns-in-Err
returns-in-Err g c = tells_first c.in-Err.field-0 c.args.word.now (decimal c.args.number ++ 10 ∷ []) (g.O.Sink.told c.args.out.now) (g.O.Sink.told c.put_out.new.out) c.in-Err.ensures.err
