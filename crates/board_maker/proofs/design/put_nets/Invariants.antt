use Rattle.std.proofs.Common.{◌≡◌, ◌++◌, ◌-◌}
use Rattle.std.specs.List.{flat_map, range_with_len}
use Rattle.board_maker.specs.Designs.{net_line}
use Rattle.board_maker.proofs.design.put_nets.Given as goal

abbrev pub invariant-loop-net : goal.invariant-loop-net
invariant-loop-net l = l.to ++ flat_map net_line (range_with_len l.net (l.count - l.net)) ≡ l.initial.to ++ flat_map net_line (range_with_len 0 l.count)
