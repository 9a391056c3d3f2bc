use Rattle.std.proofs.lemmas.Result.{err_from_is_err_and}
use Rattle.session_server.specs.Words.{names_of}
use Rattle.session_server.proofs.Doors.{no_room}
use Rattle.session_server.proofs.opening.open.Goals as goal

pub returns-in_err-ends-clause-err : goal.returns-in_err-ends-clause-err
returns-in_err-ends-clause-err g c =
    let p = err_from_is_err_and c.from_residual-in_err-ends.result c.from_residual-in_err-ends.ensures.1 in
    rw (p.1, p.2) (no_room (names_of c.args.words.now) c.as_str.result.now c.as_str-2.result.now c.as_str-3.result.now c.in_ok-ready.ready.master.parts c.in_ok-ready.ready.file (g.F.Files.told c.args.files.now) (g.F.Files.told c.open_files.new.files) (g.D.Door.told c.args.door.now) (g.D.Door.told c.open_door.new.door)
    c.as_str.ensures c.as_str-2.ensures c.as_str-3.ensures c.in_ok-open_door.ensures.ok c.in_ok-ready.ensures.ready)
