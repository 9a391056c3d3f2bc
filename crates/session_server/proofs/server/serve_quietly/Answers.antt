use Rattle.std.proofs.Common.{subst}
use Rattle.whole_files.specs.Words.{texts}
use Rattle.session_server.specs.Words.{Names}
use Rattle.session_server.specs.Lefts.{left_with}
use Rattle.session_server.specs.Rows.{IsEnded}
use Rattle.session_server.proofs.Reading.{same_names}
use Rattle.session_server.proofs.server.serve_quietly.Goals as goal

pub returns-in-Ok-clause-ended : goal.returns-in-Ok-clause-ended
returns-in-Ok-clause-ended g c = λ form.
    let s = c.serve_words.result in
    subst (λ (n : Names). IsEnded n (g.F.Files.told c.args.files.now) (g.F.Files.told c.serve_words.new.files) (g.D.Door.told c.args.door.now) (g.D.Door.told c.serve_words.new.door) (left_with g.D.L.Link.told s.history s.journal s.ends s.links) s.end)
    (same_names (texts c.args.words.now) c.in-Ok.words c.in-Ok.ensures) c.serve_words.ensures
