use Rattle.whole_files.specs.Words.{texts}
use Rattle.session_server.specs.Words.{names_in}
use Rattle.session_server.specs.Lefts.{left_with}
use Rattle.session_server.proofs.Ending.{ended_complete}
use Rattle.session_server.proofs.server.serve.Goals as goal

pub returns-clause-complete : goal.returns-clause-complete
returns-clause-complete g c = λ d form has none.
    let s = c.serve_quietly-served.result in
    ended_complete s.end (names_in (texts c.args.words.now)) d (g.F.Files.told c.args.files.now) (g.F.Files.told c.serve_quietly-served.new.files) (g.D.Door.told c.args.door.now) (g.D.Door.told c.serve_quietly-served.new.door)
    (left_with g.D.L.Link.told s.history s.journal s.ends s.links) has none (c.serve_quietly-served.ensures.ended form)
