use Rattle.layout_server.proofs.load.load.Goals as goal

pub returns-clause-loaded : goal.returns-clause-loaded
returns-clause-loaded g c =
    let script = c.in_ok-steps.ensures.script in
    record { due = script.1.due; clean = c.in_ok-design.ensures.clean }
