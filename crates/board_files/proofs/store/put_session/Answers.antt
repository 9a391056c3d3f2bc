use Rattle.std.proofs.Common.{◌≡◌, ◌++◌, ◌∙◌, take}
use Rattle.std.proofs.lemmas.Result.{err_from_is_err_and}
use Rattle.whole_files.proofs.Files.{gave_more, part_stops, cut_piece}
use Rattle.board_files.proofs.store.put_session.Goals as goal

pub pieces-preserved : goal.pieces-preserved
pieces-preserved g c =
    let left = c.pieces.session in
    let after = c.next-count.new.self in
    let piece = take c.next-count.result c.next-count.new.into in
    let parts : left ≡ piece ++ after = cut_piece c.next-count.result c.next-count.new.into left after c.next-count.ensures.piece c.next-count.ensures.rest in
    let put = c.in_ok-put_file.ensures in
    record {
      gave = gave_more c.args.file c.args.session.now left piece after (g.F.Files.told c.args.files.now).disk (g.F.Files.told c.pieces.files).disk (g.F.Files.told c.put_file.new.files).disk parts c.pieces.invariant.gave put.ok;
      writes = put.writes;
      asked = put.only.asked ∙ c.pieces.invariant.asked;
      read_faults = put.only.reads ∙ c.pieces.invariant.read_faults;
      write_faults = put.ok_count ∙ c.pieces.invariant.write_faults;
    }

pub returns-in_err-put_file-clause-err : goal.returns-in_err-put_file-clause-err
returns-in_err-put_file-clause-err g c =
    let left = c.pieces.session in
    let after = c.next-count.new.self in
    let piece = take c.next-count.result c.next-count.new.into in
    let parts : left ≡ piece ++ after = cut_piece c.next-count.result c.next-count.new.into left after c.next-count.ensures.piece c.next-count.ensures.rest in
    let p = err_from_is_err_and c.from_residual.result c.from_residual.ensures.1 in
    rw (p.1, p.2) (part_stops c.in_err-put_file.field-0.0 c.args.file c.args.session.now left piece after (g.F.Files.told c.args.files.now) (g.F.Files.told c.pieces.files) (g.F.Files.told c.put_file.new.files) parts c.pieces.invariant.gave c.pieces.invariant.write_faults c.in_err-put_file.ensures.err)
