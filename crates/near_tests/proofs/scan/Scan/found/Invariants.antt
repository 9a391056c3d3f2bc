use Rattle.std.proofs.Common.{take}
use Rattle.near_tests.proofs.Scanned.{AreThose}
use Rattle.near_tests.proofs.scan.Scan.found.Given as goal

abbrev pub invariant-loop-filed : goal.invariant-loop-filed
invariant-loop-filed l = AreThose l.layer l.rect (take l.filed-index l.filed-items) l.ids.items
