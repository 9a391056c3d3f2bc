use Rattle.board_maker.specs.Designs.{net_line}
use Rattle.board_maker.proofs.Counts.{one_written}
use Rattle.board_maker.proofs.design.put_nets.Goals as goal

pub loop-net-preserved : goal.loop-net-preserved
loop-net-preserved c = one_written net_line c.loop-net.to c.put_net.new.to _ c.loop-net.net c.args.count c.loop-net-test.true c.in_ok-put_net.ensures c.loop-net.invariant
