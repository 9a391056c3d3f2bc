use Rattle.std.proofs.lemmas.Result.{err_from_is_err_and}
use Rattle.session_server.proofs.Files.{unmade, ready}
use Rattle.session_server.proofs.opening.open_files.Goals as goal

pub returns-in_err-master-clause-err : goal.returns-in_err-master-clause-err
returns-in_err-master-clause-err g c =
    let p = err_from_is_err_and c.from_residual.result c.from_residual.ensures.1 in
    rw (p.1, p.2) (c.in_err-master.ensures.err c.args.session.now)

pub returns-in_err-file-clause-err : goal.returns-in_err-file-clause-err
returns-in_err-file-clause-err g c =
    let p = err_from_is_err_and c.from_residual-in_err-file.result c.from_residual-in_err-file.ensures.1 in
    rw (p.1, p.2) (unmade c.in_err-file.field-0.0 c.args.design.now c.args.session.now c.in_ok-master.master.parts (g.F.Files.told c.args.files.now) (g.F.Files.told c.start_master.new.files) (g.F.Files.told c.make.new.files)
    c.in_ok-master.ensures.loaded c.in_ok-master.ensures.only c.in_err-file.ensures.asked c.in_err-file.ensures.reads c.in_err-file.ensures.err)

pub returns-clause-ready : goal.returns-clause-ready
returns-clause-ready g c =
    ready c.args.design.now c.args.session.now c.in_ok-master.master.parts c.in_ok-file.file (g.F.Files.told c.args.files.now) (g.F.Files.told c.start_master.new.files) (g.F.Files.told c.make.new.files)
    c.in_ok-master.ensures.loaded c.in_ok-master.ensures.only c.in_ok-file.ensures.made c.in_ok-file.ensures.asked c.in_ok-file.ensures.reads c.in_ok-file.ensures.ok_count
