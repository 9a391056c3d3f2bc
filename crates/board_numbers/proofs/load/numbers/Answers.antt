use Rattle.board_numbers.proofs.Loads.{numbers_if}
use Rattle.board_numbers.proofs.load.numbers.Goals as goal

pub returns-clause-ok : goal.returns-clause-ok
returns-clause-ok g c =
    numbers_if c.put_out.result c.args.name.now c.in_ok-text.text c.as_slice.result.now (g.F.Files.told c.args.files.now) (g.F.Files.told c.load.new.files) (g.O.Sink.told c.args.out.now) (g.O.Sink.told c.put_out.new.out)
    c.in_ok-text.ensures.ok c.in_ok-text.ensures.only c.as_slice.ensures c.put_out.ensures.ok
