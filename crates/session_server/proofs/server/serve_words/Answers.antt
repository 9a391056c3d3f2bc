use Rattle.session_server.specs.Words.{names_of}
use Rattle.session_server.specs.Lefts.{left_with}
use Rattle.session_server.proofs.Ending.{opened_end}
use Rattle.session_server.proofs.server.serve_words.Goals as goal

pub returns-in-Ok : goal.returns-in-Ok
returns-in-Ok g c =
    let s = c.serve_opened.result in
    opened_end s.end (names_of c.args.words.now) c.in-Ok.opened.master.parts c.in-Ok.opened.file (g.F.Files.told c.args.files.now) (g.F.Files.told c.open.new.files) (g.F.Files.told c.serve_opened.new.files)
    (g.D.Door.told c.args.door.now) (g.D.Door.told c.open.new.door) (g.D.Door.told c.serve_opened.new.door) (left_with g.D.L.Link.told s.history s.journal s.ends s.links) c.in-Ok.ensures.bound c.in-Ok.ensures.ready c.serve_opened.ensures
