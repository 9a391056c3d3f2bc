use Rattle.session_server.proofs.Files.{loaded}
use Rattle.session_server.proofs.opening.start_master.Goals as goal

pub returns-in_ok-start-in-Ok-clause-loaded : goal.returns-in_ok-start-in-Ok-clause-loaded
returns-in_ok-start-in-Ok-clause-loaded g c =
    loaded c.args.name.now c.in-Ok.design c.in_ok-start-in-Ok.field-0 (g.F.Files.told c.args.files.now) c.in-Ok.ensures.ok c.in-Ok.ensures.clean c.in_ok-start-in-Ok.ensures
