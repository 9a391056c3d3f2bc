use Rattle.std.proofs.Common.{◌≡◌, ◌++◌, ◌∙◌, take}
use Rattle.client_talk.proofs.Prints.{wrote_front, wrote_kept, wrote_more}
use Rattle.client_talk.proofs.Wires.{split_here}
use Rattle.client_talk.proofs.print.write_out.Goals as goal

pub returns-in_err-count-clause-begins : goal.returns-in_err-count-clause-begins
returns-in_err-count-clause-begins g c =
    wrote_front c.args.text.now c.pieces.rest.now ((g.O.Sink.told c.args.out.now).written) ((g.O.Sink.told c.write.new.self).written) (wrote_kept c.args.text.now c.pieces.rest.now ((g.O.Sink.told c.args.out.now).written) ((g.O.Sink.told c.pieces.out).written) ((g.O.Sink.told c.write.new.self).written) c.pieces.invariant.wrote c.in_err-count.ensures.err)

pub pieces-preserved : goal.pieces-preserved
pieces-preserved g c =
    let parts : c.pieces.rest.now ≡ take c.in_ok-count.count c.pieces.rest.now ++ c.split_at.result.1.now = split_here c.in_ok-count.count c.pieces.rest.now c.split_at.result.1.now c.split_at.ensures.back in
    record {
      wrote = wrote_more c.args.text.now c.pieces.rest.now (take c.in_ok-count.count c.pieces.rest.now) c.split_at.result.1.now ((g.O.Sink.told c.args.out.now).written) ((g.O.Sink.told c.pieces.out).written) ((g.O.Sink.told c.write.new.self).written) c.pieces.invariant.wrote c.in_ok-count.ensures.ok.appended parts;
      faults = c.in_ok-count.ensures.cause ∙ c.pieces.invariant.faults;
    }

pub returns-clause-begins : goal.returns-clause-begins
returns-clause-begins g c = wrote_front c.args.text.now c.pieces.rest.now ((g.O.Sink.told c.args.out.now).written) ((g.O.Sink.told c.pieces.out).written) c.pieces.invariant.wrote
