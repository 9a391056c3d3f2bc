use Rattle.std.proofs.Common.{Ok, Err}
use Rattle.board_client.proofs.Visiting.{talked_over}
use Rattle.board_client.proofs.visit.visit.Goals as goal

pub returns-in-Err-meet : goal.returns-in-Err-meet
returns-in-Err-meet g c =
    talked_over (Unit {0}) c.args.design.now c.args.lines.now c.in-Ok.loaded.design c.in-Ok.loaded.text c.as_slice.result.now (g.F.Files.told c.args.files.now) (g.F.Files.told c.load.new.files) (g.O.Sink.told c.args.out.now) (g.O.Sink.told c.meet.new.out) (g.L.Link.told c.args.link.now) (g.L.Link.told c.meet.new.link) (Err c.in-Err-meet.stop)
    c.in-Ok.ensures.inputs c.in-Ok.ensures.only c.as_slice.ensures c.in-Err-meet.ensures.spoken c.in-Err-meet.ensures.cause c.in-Err-meet.ensures.out_cause

pub returns : goal.returns
returns g c =
    talked_over (Unit {0}) c.args.design.now c.args.lines.now c.in-Ok.loaded.design c.in-Ok.loaded.text c.as_slice.result.now (g.F.Files.told c.args.files.now) (g.F.Files.told c.load.new.files) (g.O.Sink.told c.args.out.now) (g.O.Sink.told c.meet.new.out) (g.L.Link.told c.args.link.now) (g.L.Link.told c.meet.new.link) (Ok c.in-Ok-meet.field-0)
    c.in-Ok.ensures.inputs c.in-Ok.ensures.only c.as_slice.ensures c.in-Ok-meet.ensures.spoken c.in-Ok-meet.ensures.cause c.in-Ok-meet.ensures.out_cause
