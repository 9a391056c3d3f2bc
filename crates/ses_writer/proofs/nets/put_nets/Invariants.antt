use Rattle.std.proofs.Common.{◌≡◌, ◌++◌, drop}
use Rattle.ses_writer.specs.ByNet.{listed_text}
use Rattle.ses_writer.proofs.nets.put_nets.Given as goal

abbrev pub invariant-loop-net : goal.invariant-loop-net
invariant-loop-net l = l.out ++ listed_text (drop l.net l.lists) (drop l.net l.design.parts.nets) ≡ l.initial.out ++ listed_text l.lists l.design.parts.nets
