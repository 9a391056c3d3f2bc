use Rattle.std.proofs.Common.{rules}
use Rattle.ses_writer.proofs.Texts.{listed_step}
use Rattle.ses_writer.proofs.nets.put_nets.Goals as goal

pub loop-net-preserved : goal.loop-net-preserved
loop-net-preserved c = search (rules, listed_step c.args.lists.now c.args.design.now.parts.nets c.loop-net.net c.index-lists-net.result c.net_name.result.now c.loop-net.out c.put_listed.new.out)
