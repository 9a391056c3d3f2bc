use Rattle.std.proofs.Common.{inr}
use Rattle.row_lists.specs.Limits.{weight_limit}
use Rattle.session_server.specs.Lefts.{left_with}
use Rattle.session_server.proofs.Sitting.{served_of}
use Rattle.session_server.proofs.server.serve_opened.Goals as goal

pub returns-in-Ok : goal.returns-in-Ok
returns-in-Ok g c =
    let p = c.args.opened.master.parts in
    let s = c.serve_client.result in
    let l = left_with g.D.L.Link.told s.history s.journal s.ends s.links in
    inr (record {
      served = served_of p (g.D.Door.told c.args.door.now).coming (g.D.Door.told c.accept.new.self).coming (g.D.L.Link.told c.in-Ok.link) l c.serve_client.ensures.left c.in-Ok.ensures.link c.requires.clean
          (λ legal. c.every_journal_is_shielded.ensures p 1 weight_limit s.history legal)
          (λ legal k. c.every_board_is_clean.ensures p 1 weight_limit s.history k c.requires.clean legal);
      stored = c.serve_client.ensures.stored;
      door = record { asked = c.in-Ok.ensures.asked; faults = c.in-Ok.ensures.cause };
    })
