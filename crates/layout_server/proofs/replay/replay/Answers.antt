use Rattle.std.proofs.lemmas.Result.{err_from_is_err_and}
use Rattle.layout_server.proofs.Runs.{AreLoaded, IsMade, load_stops, make_stops, only_made, texts_if, stored_if}
use Rattle.layout_server.proofs.replay.replay.Goals as goal

pub returns-in_err-loaded-clause-err : goal.returns-in_err-loaded-clause-err
returns-in_err-loaded-clause-err g c =
    let p = err_from_is_err_and c.from_residual.result c.from_residual.ensures.1 in
    rw (p.1, p.2) (load_stops c.in_err-loaded.field-0.0 c.args.design.now c.args.script.now c.args.session.now (g.F.Files.told c.args.files.now) (g.F.Files.told c.load.new.files) (g.O.Sink.told c.args.out.now) c.in_err-loaded.ensures.err)

pub returns-in_err-file-clause-err : goal.returns-in_err-file-clause-err
returns-in_err-file-clause-err g c =
    let are : AreLoaded c.args.design.now c.args.script.now c.in_ok-loaded.loaded (g.F.Files.told c.args.files.now) (g.F.Files.told c.load.new.files) = record { inputs = c.in_ok-loaded.ensures.inputs; only = c.in_ok-loaded.ensures.only } in
    let p = err_from_is_err_and c.from_residual-in_err-file.result c.from_residual-in_err-file.ensures.1 in
    rw (p.1, p.2) (make_stops c.in_err-file.field-0.0 c.args.design.now c.args.script.now c.args.session.now c.in_ok-loaded.loaded (g.F.Files.told c.args.files.now) (g.F.Files.told c.load.new.files) (g.F.Files.told c.make_file.new.files) (g.O.Sink.told c.args.out.now) are
    c.in_err-file.ensures.asked c.in_err-file.ensures.reads c.in_err-file.ensures.err)

pub returns-in_default-clause-err : goal.returns-in_default-clause-err
returns-in_default-clause-err g c =
    let are : AreLoaded c.args.design.now c.args.script.now c.in_ok-loaded.loaded (g.F.Files.told c.args.files.now) (g.F.Files.told c.load.new.files) = record { inputs = c.in_ok-loaded.ensures.inputs; only = c.in_ok-loaded.ensures.only } in
    let made : IsMade c.args.session.now c.in_ok-file.file (g.F.Files.told c.load.new.files) (g.F.Files.told c.make_file.new.files) =
    record { made = c.in_ok-file.ensures.made; asked = c.in_ok-file.ensures.asked; reads = c.in_ok-file.ensures.reads; writes = c.in_ok-file.ensures.ok_count } in
    only_made c.args.design.now c.args.script.now c.args.session.now c.in_ok-loaded.loaded c.in_ok-file.file (g.F.Files.told c.args.files.now) (g.F.Files.told c.load.new.files) (g.F.Files.told c.make_file.new.files) (g.O.Sink.told c.args.out.now) are made

pub returns-clause-err : goal.returns-clause-err
returns-clause-err g c =
    let are : AreLoaded c.args.design.now c.args.script.now c.in_ok-loaded.loaded (g.F.Files.told c.args.files.now) (g.F.Files.told c.load.new.files) = record { inputs = c.in_ok-loaded.ensures.inputs; only = c.in_ok-loaded.ensures.only } in
    let made : IsMade c.args.session.now c.in_ok-file.file (g.F.Files.told c.load.new.files) (g.F.Files.told c.make_file.new.files) =
    record { made = c.in_ok-file.ensures.made; asked = c.in_ok-file.ensures.asked; reads = c.in_ok-file.ensures.reads; writes = c.in_ok-file.ensures.ok_count } in
    texts_if c.put_texts.result c.args.design.now c.args.script.now c.args.session.now c.in-Ok.texts.output c.in-Ok.texts.session c.in_ok-loaded.loaded c.in_ok-file.file
    (g.F.Files.told c.args.files.now) (g.F.Files.told c.load.new.files) (g.F.Files.told c.make_file.new.files) (g.F.Files.told c.put_texts.new.files) (g.O.Sink.told c.args.out.now) (g.O.Sink.told c.put_texts.new.out) are made c.put_texts.ensures.only c.in-Ok.ensures c.put_texts.ensures.err

pub returns-clause-ok : goal.returns-clause-ok
returns-clause-ok g c =
    let are : AreLoaded c.args.design.now c.args.script.now c.in_ok-loaded.loaded (g.F.Files.told c.args.files.now) (g.F.Files.told c.load.new.files) = record { inputs = c.in_ok-loaded.ensures.inputs; only = c.in_ok-loaded.ensures.only } in
    let made : IsMade c.args.session.now c.in_ok-file.file (g.F.Files.told c.load.new.files) (g.F.Files.told c.make_file.new.files) =
    record { made = c.in_ok-file.ensures.made; asked = c.in_ok-file.ensures.asked; reads = c.in_ok-file.ensures.reads; writes = c.in_ok-file.ensures.ok_count } in
    stored_if c.put_texts.result c.args.design.now c.args.script.now c.args.session.now c.in-Ok.texts.output c.in-Ok.texts.session c.in_ok-loaded.loaded c.in_ok-file.file
    (g.F.Files.told c.args.files.now) (g.F.Files.told c.load.new.files) (g.F.Files.told c.make_file.new.files) (g.F.Files.told c.put_texts.new.files) (g.O.Sink.told c.args.out.now) (g.O.Sink.told c.put_texts.new.out) are made c.put_texts.ensures.only c.in-Ok.ensures c.put_texts.ensures.out c.put_texts.ensures.session c.put_texts.ensures.ok_count
