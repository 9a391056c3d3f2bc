use Rattle.ses_writer.specs.ByNet.{NoLists}
use Rattle.ses_writer.proofs.by_net.no_lists.Given as goal

abbrev pub invariant-loop-net : goal.invariant-loop-net
invariant-loop-net l = NoLists l._net l.lists.items
