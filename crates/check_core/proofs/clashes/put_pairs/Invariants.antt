use Rattle.std.proofs.Common.{◌≡◌, ◌++◌, drop}
use Rattle.check_core.specs.Tries.{paired}
use Rattle.check_core.proofs.clashes.put_pairs.Given as goal

-- With the pairs that are left the list is that with all.
abbrev pub invariant-loop-id : goal.invariant-loop-id
invariant-loop-id l = l.pairs ++ paired l.a (drop l.id-index l.ids) ≡ l.initial.pairs ++ paired l.a l.ids
